-- Text that was written, part by part, to an output that is given pieces of it.
use Rattle.std.proofs.Common.{◌≡◌, ℕ, ◌+◌, ◌≤◌, List, [], ◌++◌, length, take, Option, Some, None, sym, ap, subst, ◌∙◌, append_assoc, append-nil, arith, length-append}
use Rattle.std.proofs.Math.Seq.{take-append-add}
use Rattle.std.proofs.lemmas.List.{take-append-le}
use Rattle.std.specs.Io.KnownBytes.{Appends}
use Rattle.std.proofs.KnownBytes.{Appends-trans}
use Rattle.gw_outside.specs.Faults.{TakesFront}
use Rattle.cmd_datagram.specs.Delivered.{Wrote}

-- more is held
pub wrote_more : (before : Option (List ℕ)) (text : List ℕ) (now : Option (List ℕ)) (held more : List ℕ) → Wrote before text now held → Wrote before (text ++ more) now (held ++ more)
wrote_more before text now held more w = record {
  pushed = w.pushed;
  joins = ap (λ (t : List ℕ). t ++ more) w.joins ∙ append_assoc w.pushed held more;
  gained = w.gained;
}

-- what was held is pushed
pub wrote_all : (before : Option (List ℕ)) (text : List ℕ) (now new : Option (List ℕ)) (held : List ℕ) → Wrote before text now held → Appends now new held → Wrote before text new []
wrote_all before text now new held w more = record {
  pushed = w.pushed ++ held;
  joins = w.joins ∙ sym (append-nil (w.pushed ++ held));
  gained = Appends-trans before now new w.pushed held w.gained more;
}

-- a front of what was held is pushed
pub wrote_front : (before : Option (List ℕ)) (text : List ℕ) (now new : Option (List ℕ)) (held : List ℕ) → Wrote before text now held → TakesFront now new held → TakesFront before new text
wrote_front before text now new held w front =
    let taken : take (length w.pushed + front.count) text ≡ w.pushed ++ take front.count held = ap (take (length w.pushed + front.count)) w.joins ∙ take-append-add w.pushed held front.count in
    let long : length text ≡ length w.pushed + length held = ap length w.joins ∙ length-append w.pushed held in
    record {
      count = length w.pushed + front.count;
      within = omega (arith, long, front.within);
      appended = subst (Appends before new) (sym taken) (Appends-trans before now new w.pushed (take front.count held) w.gained front.appended);
    }

-- nothing of it is
pub wrote_so_far : (before : Option (List ℕ)) (text : List ℕ) (now : Option (List ℕ)) (held : List ℕ) → Wrote before text now held → TakesFront before now text
wrote_so_far before text now held w =
    let taken : take (length w.pushed + 0) text ≡ w.pushed ++ [] = ap (take (length w.pushed + 0)) w.joins ∙ take-append-add w.pushed held 0 in
    let long : length text ≡ length w.pushed + length held = ap length w.joins ∙ length-append w.pushed held in
    record {
      count = length w.pushed + 0;
      within = omega (arith, long);
      appended = subst (Appends before now) (sym (taken ∙ append-nil w.pushed)) w.gained;
    }

-- a front of a text is one of any that it begins
pub front_of_more : (before now : Option (List ℕ)) (text more : List ℕ) → TakesFront before now text → TakesFront before now (text ++ more)
front_of_more before now text more front = record {
  count = front.count;
  within = omega (arith, length-append text more, front.within);
  appended = subst (Appends before now) (sym (take-append-le front.count text more front.within)) front.appended;
}

-- nothing was written
pub wrote_nothing : (before : Option (List ℕ)) (held : List ℕ) → held ≡ [] → Wrote before [] before held
wrote_nothing before held none = record { pushed = []; joins = sym none; gained = kept before }
  where
    kept : (o : Option (List ℕ)) → Appends o o []
    kept None = tt
    kept (Some xs) = sym (append-nil xs)

-- all was pushed
pub all_pushed : (before : Option (List ℕ)) (text : List ℕ) (now new : Option (List ℕ)) (held : List ℕ) → Wrote before text now held → Appends now new held → Appends before new text
all_pushed before text now new held w more = subst (Appends before new) (sym w.joins) (Appends-trans before now new w.pushed held w.gained more)

-- a line is held, and all that is held is pushed, or a front of it
pub wrote_pushed : (before : Option (List ℕ)) (text : List ℕ) (now new : Option (List ℕ)) (old line held after : List ℕ) → Wrote before text now old → held ≡ old ++ line → Appends now new held → after ≡ []
    → Wrote before (text ++ line) new after
wrote_pushed before text now new old line held after w is all none =
    subst (Wrote before (text ++ line) new) (sym none) (wrote_all before (text ++ line) now new (old ++ line) (wrote_more before text now old line w) (subst (Appends now new) is all))

pub wrote_failed : (before : Option (List ℕ)) (text : List ℕ) (now new : Option (List ℕ)) (old line held : List ℕ) → Wrote before text now old → held ≡ old ++ line → TakesFront now new held
    → TakesFront before new (text ++ line)
wrote_failed before text now new old line held w is front =
    wrote_front before (text ++ line) now new (old ++ line) (wrote_more before text now old line w) (subst (TakesFront now new) is front)

-- nothing is held
pub wrote_whole : (before : Option (List ℕ)) (text : List ℕ) (now : Option (List ℕ)) → Wrote before text now [] → Appends before now text
wrote_whole before text now w = subst (Appends before now) (sym (w.joins ∙ append-nil w.pushed)) w.gained
