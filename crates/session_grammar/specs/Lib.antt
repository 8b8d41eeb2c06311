pub mod SessionSchema
pub mod SchemaLaws
pub mod SessionTrees
pub mod Laws
