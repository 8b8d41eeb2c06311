-- A life that `serve` opens.
use Rattle.std.proofs.Common.{List, sym, subst, arith}
use Rattle.std.specs.Prelude.{option_to_list}
use mathlib.Core.List.{IsPrefix}
use Rattle.session_model.specs.Journal.{Entry, entries}
use Rattle.session_model.proofs.Lists.{prefix_trans, prefix_length}
use Rattle.fixp_machine.specs.Machine.{State, fresh}
use Rattle.jr_dated.specs.declared.journal.Journal.{Ghosts}
use Rattle.jr_kept.specs.declared.inbox.Inbox.{Inbox}
use Rattle.connection_laws.specs.Living.{Opens}
use Rattle.conn_serve.specs.Connections.{all_of, refused_of_all}
use Rattle.conn_serve.specs.Opening.{opened_state}
use Rattle.life_laws.specs.Lives.{LifeOfLoop, OpenedOpens, OpenedInRange, ServedIsALoopLife}
use Rattle.life_laws.proofs.Behind.{seen_over_all, seen_behind}
use Rattle.life_laws.proofs.Loops.{served_keeps, life_may_turn}

module _ {J : Type 0} {G : Ghosts J} where
  pub opened_opens : (box : Inbox J G) → OpenedOpens box
  opened_opens box opened config most h i begins holds = record { awaits = holds.noticed.next; enough = prefix_length opened.made h begins; before = λ _. omega arith }

  pub opened_in_range : (box : Inbox J G) → OpenedInRange box
  opened_in_range box opened config most session keepalive credentials few next = record {
    session = session;
    keepalive = omega (arith, keepalive);
    credentials = credentials;
    most = omega (arith, few);
    next = next;
  }

  pub served_is_a_loop_life : (tells : Type 0) (box : Inbox J G) → ServedIsALoopLife tells box
  served_is_a_loop_life tells box old new opened config most result opening closing refused i k t same begins has holds range payloads =
      let m : State = fresh config (opened_state opened old.box) most in
      let h : List Entry = entries closing in
      let earlier : IsPrefix opened.made h =
      prefix_trans opened.made old.seen.made h begins.made (prefix_trans old.seen.made k.behind.made h (seen_over_all old.seen k.behind m k.mid k.ended k.were)
      (prefix_trans k.behind.made new.seen.made h (seen_behind k.behind new.seen k.mid k.given_up k.gave_up) has.begins)) in
      let o : Opens (entries opening) h m i = subst (λ (es : List Entry). Opens es h m i) (sym same) (opened_opens old.box opened config most h i earlier holds) in
      let l : LifeOfLoop opening closing refused m i (all_of k.ended k.given_up) (refused_of_all (option_to_list k.given_up)) =
      served_keeps tells box old new m result opening closing refused i k t has o in
      (l, life_may_turn opening closing refused m i (all_of k.ended k.given_up) (refused_of_all (option_to_list k.given_up)) l o range payloads k.timely)
