-- What was opened on a disk, by what it told.
use Rattle.std.proofs.Common.{◌≡◌, ℕ, true, false, List, Option, Some, is_some, refl, ap, ◌∙◌}
use Rattle.std.specs.Option.{ForSome}
use Rattle.gw_outside.specs.declared.disk.Disk.{Ghosts}
use Rattle.jr_dated.specs.Dated.{Dated, undated}
use Rattle.jr_dated.specs.Images.{IsJournal as IsDatedJournal}
use Rattle.jr_dated.specs.Journals.{Unchanged as SameJournal}
use Rattle.jr_segments.specs.Journal.{StandsFor, MayLeave, OpensOn, disk_of, broken_of}
use Rattle.jr_segments.specs.declared.journal.SegJournal.{SegJournal}
use Rattle.cmd_session.specs.Journals.{IsJournal}

module _ {D : Type 0} {G : Ghosts D} where
  -- a list for which a journal stands that was opened, or read since, is the one that the disk told
  pub stands_told : (told : Option (List ℕ)) (old new : SegJournal D G) → G.told (disk_of old) ≡ told → broken_of old ≡ false → SameJournal (StandsFor {D = D} {G = G}) (MayLeave {D = D} {G = G}) old new
      → (dated : List Dated) → StandsFor {D = D} {G = G} new dated → ForSome told (λ content. IsDatedJournal content dated)
  stands_told told old new at sound same dated stands content is = ((same.records dated).1 stands).told (old.whole sound) content (at ∙ is)

  -- a disk that told its content tells it
  pub tells_so : (told : Option (List ℕ)) (j : SegJournal D G) → G.told (disk_of j) ≡ told → (content : List ℕ) → told ≡ Some content → is_some (G.told (disk_of j)) ≡ true
  tells_so told j at content is = ap (λ (t : Option (List ℕ)). is_some t) (at ∙ is)

  -- the list that it was opened on, without its moments
  pub list_told : (told : Option (List ℕ)) (j : SegJournal D G) → (o : OpensOn {D = D} {G = G} told j) → ForSome told (λ content. IsJournal content (undated o.list))
  list_told told j o content is = (o.list, o.content content is, refl)
