use Rattle.order_desk.proofs.Computed.{schema_is_checked}
use Rattle.order_desk.proofs.laws.schema_is_checked.Goals as goal

pub returns : goal.returns
returns c = record { law = schema_is_checked }
