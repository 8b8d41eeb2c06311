-- Each row of the session messages and the plan of its template by the session's schema: the same items, ends and data.
use Rattle.std.proofs.Common.{◌≡◌, ℕ, pos, Bool, true, false, Option, Some, None, List, [], ◌∷◌, map, refl}
use Rattle.std.specs.List.{AllByRecursion}
use Rattle.sbe_prim.specs.declared.Primitive.TheVariants.{UInt16}
use Rattle.sbe_prim.specs.Names.{primitive_named}
use Rattle.sbe_layout.specs.declared.items.DataPlan.{DataPlan}
use Rattle.sbe_layout.specs.declared.plan.MessagePlan.{MessagePlan}
use Rattle.sbe_layout.specs.Trees.{no_plans}
use Rattle.sbe_layout.specs.Plans as plans
use Rattle.session_grammar.specs.SessionSchema.{schema_with}
use Rattle.fixp_msgs.specs.Message.{Message}
use Rattle.fixp_msgs.specs.Table.{Row, row_of, templates}
use Rattle.fixp_msgs.specs.Spelled.{message_at}
use Rattle.session_grammar.specs.SessionTrees.{row_before}
use Rattle.session_grammar.proofs.Fields.{ItemsFit, MarksFit, Lasting}

-- a row's datum has a plan, and a row without one has none
abbrev pub DataFit : Option (List ℕ) → List DataPlan → Type 0
DataFit None [] = Unit {0}
DataFit None (d ∷ ds) = ⊥
DataFit (Some datum) [] = ⊥
DataFit (Some datum) (d ∷ []) = d ≡ record { name = d.name; since = pos 0; length = UInt16 }
DataFit (Some datum) (d ∷ e ∷ ds) = ⊥

pub record Fits (layout : MessagePlan) (r : Row) : Type 0 where
  pub lasts : Lasting r.fields
  pub items : ItemsFit 0 r.fields layout.root.items
  pub marks : MarksFit 0 r.fields layout.root.marks
  pub groups : layout.root.groups ≡ no_plans
  pub vars : DataFit r.datum layout.root.vars

abbrev pub FitsFound : Option MessagePlan → Row → Type 0
FitsFound None r = ⊥
FitsFound (Some layout) r = Fits layout r

abbrev pub plans_at : Bool → ℕ → List MessagePlan
plans_at newer version = (plans.plan_of (schema_with newer version)).messages

-- every row, by the message of its template
pub fits : (version : ℕ) (m : Message) → FitsFound (plans.message_of (row_of m).template (plans_at true version)) (row_of m)
unfolding primitive_named
fits version (Message.negotiate _ _ _ _) = record { lasts = (refl, (refl, tt)); items = (refl, (refl, (refl, tt))); marks = (refl, (refl, (refl, tt))); groups = refl; vars = refl }
fits version (Message.negotiation_response _ _ _ _) = record { lasts = (refl, (refl, tt)); items = (refl, (refl, (refl, tt))); marks = (refl, (refl, (refl, tt))); groups = refl; vars = refl }
fits version (Message.negotiation_reject _ _ _ _) = record { lasts = (refl, (refl, tt)); items = (refl, (refl, (refl, tt))); marks = (refl, (refl, (refl, tt))); groups = refl; vars = refl }
fits version (Message.establish _ _ _ _ _ _) = record { lasts = (refl, (refl, (refl, (refl, tt)))); items = (refl, (refl, (refl, (refl, (refl, tt))))); marks = (refl, (refl, (refl, (refl, (refl, tt))))); groups = refl; vars = refl }
fits version (Message.establishment_ack _ _ _ _ _) = record { lasts = (refl, (refl, (refl, (refl, tt)))); items = (refl, (refl, (refl, (refl, (refl, tt))))); marks = (refl, (refl, (refl, (refl, (refl, tt))))); groups = refl; vars = tt }
fits version (Message.establishment_reject _ _ _ _) = record { lasts = (refl, (refl, tt)); items = (refl, (refl, (refl, tt))); marks = (refl, (refl, (refl, tt))); groups = refl; vars = refl }
fits version (Message.sequence _) = record { lasts = tt; items = (refl, tt); marks = (refl, tt); groups = refl; vars = tt }
fits version Message.unsequenced_heartbeat = record { lasts = tt; items = tt; marks = tt; groups = refl; vars = tt }
fits version (Message.retransmit_request _ _ _ _) = record { lasts = (refl, (refl, (refl, tt))); items = (refl, (refl, (refl, (refl, tt)))); marks = (refl, (refl, (refl, (refl, tt)))); groups = refl; vars = tt }
fits version (Message.retransmission _ _ _ _) = record { lasts = (refl, (refl, (refl, tt))); items = (refl, (refl, (refl, (refl, tt)))); marks = (refl, (refl, (refl, (refl, tt)))); groups = refl; vars = tt }
fits version (Message.retransmit_reject _ _ _ _) = record { lasts = (refl, (refl, tt)); items = (refl, (refl, (refl, tt))); marks = (refl, (refl, (refl, tt))); groups = refl; vars = refl }
fits version (Message.applied _ _) = record { lasts = (refl, tt); items = (refl, (refl, tt)); marks = (refl, (refl, tt)); groups = refl; vars = tt }
fits version (Message.not_applied _ _) = record { lasts = (refl, tt); items = (refl, (refl, tt)); marks = (refl, (refl, tt)); groups = refl; vars = tt }
fits version (Message.finished_sending _ _) = record { lasts = (refl, tt); items = (refl, (refl, tt)); marks = (refl, (refl, tt)); groups = refl; vars = tt }
fits version (Message.finished_receiving _) = record { lasts = tt; items = (refl, tt); marks = (refl, tt); groups = refl; vars = tt }
fits version (Message.terminate _ _ _) = record { lasts = (refl, tt); items = (refl, (refl, tt)); marks = (refl, (refl, tt)); groups = refl; vars = refl }

-- and by the schema without the elements of version 1
pub fits_before : (version : ℕ) (m : Message) → FitsFound (plans.message_of (row_of m).template (plans_at false version)) (row_before m)
unfolding primitive_named
fits_before version (Message.negotiate _ _ _ _) = record { lasts = (refl, (refl, tt)); items = (refl, (refl, (refl, tt))); marks = (refl, (refl, (refl, tt))); groups = refl; vars = refl }
fits_before version (Message.negotiation_response _ _ _ _) = record { lasts = (refl, (refl, tt)); items = (refl, (refl, (refl, tt))); marks = (refl, (refl, (refl, tt))); groups = refl; vars = refl }
fits_before version (Message.negotiation_reject _ _ _ _) = record { lasts = (refl, (refl, tt)); items = (refl, (refl, (refl, tt))); marks = (refl, (refl, (refl, tt))); groups = refl; vars = refl }
fits_before version (Message.establish _ _ _ _ _ _) = record { lasts = (refl, (refl, (refl, tt))); items = (refl, (refl, (refl, (refl, tt)))); marks = (refl, (refl, (refl, (refl, tt)))); groups = refl; vars = refl }
fits_before version (Message.establishment_ack _ _ _ _ _) = record { lasts = (refl, (refl, (refl, tt))); items = (refl, (refl, (refl, (refl, tt)))); marks = (refl, (refl, (refl, (refl, tt)))); groups = refl; vars = tt }
fits_before version (Message.establishment_reject _ _ _ _) = record { lasts = (refl, (refl, tt)); items = (refl, (refl, (refl, tt))); marks = (refl, (refl, (refl, tt))); groups = refl; vars = refl }
fits_before version (Message.sequence _) = record { lasts = tt; items = (refl, tt); marks = (refl, tt); groups = refl; vars = tt }
fits_before version Message.unsequenced_heartbeat = record { lasts = tt; items = tt; marks = tt; groups = refl; vars = tt }
fits_before version (Message.retransmit_request _ _ _ _) = record { lasts = (refl, (refl, (refl, tt))); items = (refl, (refl, (refl, (refl, tt)))); marks = (refl, (refl, (refl, (refl, tt)))); groups = refl; vars = tt }
fits_before version (Message.retransmission _ _ _ _) = record { lasts = (refl, (refl, (refl, tt))); items = (refl, (refl, (refl, (refl, tt)))); marks = (refl, (refl, (refl, (refl, tt)))); groups = refl; vars = tt }
fits_before version (Message.retransmit_reject _ _ _ _) = record { lasts = (refl, (refl, tt)); items = (refl, (refl, (refl, tt))); marks = (refl, (refl, (refl, tt))); groups = refl; vars = refl }
fits_before version (Message.applied _ _) = record { lasts = (refl, tt); items = (refl, (refl, tt)); marks = (refl, (refl, tt)); groups = refl; vars = tt }
fits_before version (Message.not_applied _ _) = record { lasts = (refl, tt); items = (refl, (refl, tt)); marks = (refl, (refl, tt)); groups = refl; vars = tt }
fits_before version (Message.finished_sending _ _) = record { lasts = (refl, tt); items = (refl, (refl, tt)); marks = (refl, (refl, tt)); groups = refl; vars = tt }
fits_before version (Message.finished_receiving _) = record { lasts = tt; items = (refl, tt); marks = (refl, tt); groups = refl; vars = tt }
fits_before version (Message.terminate _ _ _) = record { lasts = (refl, tt); items = (refl, (refl, tt)); marks = (refl, (refl, tt)); groups = refl; vars = refl }

-- the plan's templates are those of the table
pub same_templates : (version : ℕ) → map (λ (l : MessagePlan). l.template) (plans_at true version) ≡ templates
same_templates version = refl

-- a template's message has its template
abbrev pub HasTemplate : ℕ → Type 0
HasTemplate id = (version : ℕ) (block behind : List ℕ) → id ≡ (row_of (message_at version id block behind)).template

pub have_templates : AllByRecursion HasTemplate templates
have_templates = (λ _ _ _. refl, (λ _ _ _. refl, (λ _ _ _. refl, (λ _ _ _. refl, (λ _ _ _. refl, (λ _ _ _. refl, (λ _ _ _. refl, (λ _ _ _. refl, (λ _ _ _. refl, (λ _ _ _. refl, (λ _ _ _. refl, (λ _ _ _. refl, (λ _ _ _. refl, (λ _ _ _. refl, (λ _ _ _. refl, (λ _ _ _. refl, tt))))))))))))))))
