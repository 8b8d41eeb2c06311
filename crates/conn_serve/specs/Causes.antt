-- What a fault of a life is caused by (this project's profile).
use Rattle.std.specs.Prelude.{◌≡◌, ◌⊎◌, ℕ, ◌<◌, ◌≤◌, Bool, true, false, List, ◌++◌, length, Option, Some, None}
use Rattle.std.specs.Io.KnownBytes.{Appends}
use Rattle.gw_outside.specs.Faults.{HasRisen, TakesFront}
use Rattle.session_model.specs.Journal.{History}
use Rattle.jr_boxes.specs.declared.faults.Which.{Which}
use Rattle.jr_boxes.specs.declared.faults.Which.TheVariants as boxes
use Rattle.jr_dated.specs.declared.journal.Journal.{Ghosts}
use Rattle.jr_kept.specs.declared.inbox.Inbox.{Inbox}
use Rattle.jr_kept.specs.Inbox.{faults_of, is_broken, size_of, count_of}
use Rattle.gate_turn.specs.Views.{HasFailed, Part}
use Rattle.conn_lines.specs.declared.close.Close.{Close}
use Rattle.conn_turns.specs.declared.news.NewsItem.{NewsItem}
use Rattle.conn_door.specs.declared.answer.ServeFault.{ServeFault}
use Rattle.conn_door.specs.declared.answer.ServeFault.TheVariants as faults
use Rattle.conn_serve.specs.Lines.{news_lines, close_line}
use Rattle.conn_serve.specs.Moments.{FaultsAt}

-- behind these faults lines may be lacking on OUT
abbrev pub lacks : ServeFault → Bool
lacks faults.Output = true
lacks faults.Journal = false
lacks (faults.Changed which at) = false
lacks faults.Dial = false
lacks (faults.Unfinished phase) = false
lacks (faults.Rejected template code) = false
lacks (faults.Full entries bytes) = false
lacks faults.Turns = false
lacks faults.Memory = true

abbrev pub lacks_at : Option ServeFault → Bool
lacks_at None = false
lacks_at (Some fault) = lacks fault

-- OUT took all of these lines; or, where some may be lacking, a front of them
abbrev pub Tells : Bool → Option (List ℕ) → Option (List ℕ) → List ℕ → Type 0
Tells false old new lines = Appends old new lines
Tells true old new lines = TakesFront old new lines

-- OUT took all of the earlier lines, and of the late ones all; or, where some may be lacking, a front of them
pub record TellsUntil (lacking : Bool) (old new : Option (List ℕ)) (earlier late : List ℕ) : Type 0 where
  pub between : Option (List ℕ)
  pub first : Appends old between earlier
  pub last : Tells lacking between new late

-- so it took the lines of these news, of which the late ones are at most 512, as many as a turn tells: by 256 frames, and by 256 messages that
-- were held
pub record TellsNews (lacking : Bool) (old new : Option (List ℕ)) (news : List NewsItem) : Type 0 where
  pub earlier : List NewsItem
  pub late : List NewsItem
  pub are : news ≡ earlier ++ late
  pub few : length late ≤ 512
  pub lines : TellsUntil lacking old new (news_lines earlier) (news_lines late)

-- the lines of at most 512 news, or that of the end of a connection
abbrev pub AreLate : List ℕ → Type 0
AreLate lines = ((news : List NewsItem) × (length news ≤ 512) × (lines ≡ news_lines news))
    ⊎ ((n : ℕ) × (close : Option Close) × (lines ≡ close_line n close))

-- so it took these lines, of which the late ones are those of at most 512 news, or that of the end of a connection
pub record TellsAll (lacking : Bool) (old new : Option (List ℕ)) (lines : List ℕ) : Type 0 where
  pub earlier : List ℕ
  pub late : List ℕ
  pub are : lines ≡ earlier ++ late
  pub few : AreLate late
  pub told : TellsUntil lacking old new earlier late

-- A record is read otherwise than it was written, which on a disk that tells its content none is: one of the outbox, of those that were seen; or one of the
-- inbox, which only those read who look at what is applied
abbrev pub IsChanged : (looks : Bool) (in_tells out_tells : Type 0) → History → Which → (at : ℕ) → Type 0
IsChanged looks in_tells out_tells seen boxes.Outbox at = (at < length seen.made) × (out_tells → ⊥)
IsChanged looks in_tells out_tells seen boxes.Inbox at = (looks ≡ true) × (in_tells → ⊥)

module _ {J : Type 0} {G : Ghosts J} where
  -- a journal is to blame: the inbox's count rose, or it was broken before, or a call of the outbox's disk failed, as the count that the
  -- pass has seen shows: meanwhile, or since its opening
  abbrev pub BlamesJournal : (p p' : Part) (box box' : Inbox J G) → Type 0
  BlamesJournal p p' box box' =
      HasRisen (faults_of box) (faults_of box') ⊎ ((is_broken box ≡ true) ⊎ (HasFailed p.faults p'.faults ⊎ HasFailed p'.opening.faults p'.faults))

  -- what a fault is to blame for; a record that has changed is one of the outbox, which alone the connections read
  pub record IsBlamed (tells : Type 0) (old new : FaultsAt J G) (fault : ServeFault) : Type 0 where
    pub output : fault ≡ faults.Output → HasRisen old.out new.out
    pub journal : fault ≡ faults.Journal → BlamesJournal old.pass new.pass old.box new.box
    pub changed : (which : Which) (at : ℕ) → fault ≡ faults.Changed which at → IsChanged false G.tells tells new.pass.seen which at
    pub dial : fault ≡ faults.Dial → HasRisen old.dialer new.dialer
    pub full : (entries bytes : ℕ) → fault ≡ faults.Full entries bytes → (entries ≡ count_of new.box) × (bytes ≡ size_of new.box)
