-- An opening that failed changed nothing of what the files keep.
use Rattle.std.proofs.Common.{◌≡◌, ◌⊎◌, inl, inr, ℕ, List, [], ◌∷◌, Bool}
use Rattle.std.proofs.Common.{cond, IsTrue, refl, sym, subst, ap₂}
use Rattle.std.proofs.Math.Logic.{∥∥₁_elim, ∥∥₁_map}
use Rattle.sqlite_disk.specs.declared.Disk.{Ghosts}
use Rattle.sqlite_disk.specs.declared.Files.{Files}
use Rattle.sqlite_disk.specs.Events.{Event, settled, replay}
use Rattle.sqlite_disk.specs.History.{MayLeave}
use Rattle.sqlite_wal.specs.Recovery.{Image}
use Rattle.sqlite_wal.specs.Files.{outcomes}
use Rattle.sqlite.specs.Tree.{Trees}
use Rattle.sqlite.specs.declared.error.Error.{Error}
use Rattle.sqlite.specs.declared.file.Leftover.TheVariants as left
use Rattle.sqlite_wal.specs.Reads.{AreClean}
use Rattle.sqlite_store.specs.Unopened.{state_of}
use Rattle.sqlite_store.specs.declared.store.open.Unopened.{Unopened}
use Rattle.sqlite.specs.Files.{HoldsDatabase, IsNothing, IsEmpty, IsUnderWay}
use Rattle.sqlite.proofs.ListingLemmas.{empty_is_sound}
use Rattle.edf_tables.specs.Schema.{no_schema}
use Rattle.edf_fragment.specs.Parsed.{Parsed}
use Rattle.edf_holdings.specs.Holdings.{Holdings, nothing_held}
use Rattle.edf_holdings.specs.Reply.{after}
use Rattle.edfstore_files.specs.Files.{no_table, FilesHold}
use Rattle.edfstore_files.specs.ProgramRun.{IsLeftover}
use Rattle.edfstore_files.specs.Turns.{idle, StepsBy}
use Rattle.edfstore_files.proofs.Nothing.{nothing_holds}

nothing_left : (cap : ℕ) (image : Image) (h : Holdings) → IsNothing image →
    FilesHold cap image h → h ≡ nothing_held
nothing_left cap image h nothing (inl none) = none.1
nothing_left cap image h nothing (inr (db, held, it)) =
    absurd (∥∥₁_elim held (λ a. absurd a) (λ holds. nothing_holds image db nothing holds))

-- an empty database keeps nothing
empty_keeps : (cap : ℕ) (image : Image) (h : Holdings) → h ≡ nothing_held →
    (db : Trees) × HoldsDatabase image db × IsEmpty db → FilesHold cap image h
empty_keeps cap image h is (db, holds, empty) = inr (
  db,
  ∣ holds ∣₁,
  record {
    schema = no_schema;
    is_database = empty_is_sound db empty.1;
    holds = no_table refl is;
  },
)

-- what files kept is what they keep
pub still : (cap : ℕ) (start end : Image) → ((h : Holdings) → FilesHold cap start h →
    ∥ FilesHold cap end h ∥₁) → StepsBy cap idle start end
still cap start end keeps h keep = ∥∥₁_map (keeps h keep) (λ kept.
    let r : (tolds : List Parsed) × (tolds ≡ []) × FilesHold cap end (after cap h tolds) =
    ([], refl, kept) in r)

old_one : (cap : ℕ) (start image : Image) → image ≡ start → StepsBy cap idle start image
old_one cap start image same = still cap start image (λ h keep.
    ∣ subst (λ (i : Image). FilesHold cap i h) (sym same) keep ∣₁)

module _ {D : Type 0} (g : Ghosts D) (cap : ℕ) (start : Image) where
  under_way : (files : Files D) → ((image : Image) → outcomes g files.log files.db image →
      image ≡ start) → IsNothing start → (image : Image) → IsUnderWay g files image →
      StepsBy cap idle start image
  under_way files only nothing image (inl may) = old_one cap start image (only image may)
  under_way files only nothing image (inr (inl none)) = still cap start image (λ h keep.
      let r : FilesHold cap image h = inl (none, nothing_left cap start h nothing keep) in ∣ r ∣₁)
  under_way files only nothing image (inr (inr held)) = still cap start image (λ h keep.
      ∥∥₁_map held (empty_keeps cap image h (nothing_left cap start h nothing keep)))

  pub read_idle : (error : Error) (now : Files D) →
      IsLeftover {g = g} start error (left.Files now) →
      AreClean g now.log now.db → (image : Image) → outcomes g now.log now.db image →
      StepsBy cap idle start image
  read_idle error now it clean image may =
      old_one cap start image (it.settled image ((it.failed clean).1 image may))

  pub begun_idle : (error : Error) (now : Unopened D g) →
      IsLeftover {g = g} start error (left.Unopened now) → IsTrue (state_of now).is_clean →
      IsNothing start → (image : Image) → (state_of now).may_leave image →
      StepsBy cap idle start image
  begun_idle error now it clean nothing image may = elim (it.failed clean).1 [
    | inl some ↦ under_way it.files it.settled nothing image (some.1 image may)
    | inr some ↦ absurd (some.0 (subst IsNothing (sym it.held) nothing))
  ]

-- ---- a file that was synced as it was opened, and of which nothing was asked since

abbrev pub file_seen : List ℕ → List ℕ → Bool → List Event → List ℕ
file_seen log db is_log events = (replay (cond is_log log db) events).seen

abbrev pub FileLeft : Bool → List ℕ → List ℕ → Bool → List Event → List ℕ → Type 0
FileLeft mixes log db is_log events c = let m = replay (cond is_log log db) events in
    MayLeave mixes m.seen m.synced m.steps c

pub fresh_seen : (log db : List ℕ) (is_log want : Bool) (events : List Event) (key : ℕ) →
    is_log ≡ want → events ≡ settled key ∷ [] →
    file_seen log db is_log events ≡ file_seen log db want (settled key ∷ [])
fresh_seen log db is_log want events key which is = ap₂ (file_seen log db) which is

pub fresh_only : (mixes : Bool) (log db : List ℕ) (is_log want : Bool) (events : List Event)
    (key : ℕ) (c : List ℕ) → is_log ≡ want → events ≡ settled key ∷ [] →
    FileLeft mixes log db is_log events c → c ≡ cond want log db
fresh_only mixes log db is_log want events key c which is may =
    let one : FileLeft mixes log db want events c =
    subst (λ (b : Bool). FileLeft mixes log db b events c) which may in
    let two : (c ≡ cond want log db) ⊎ (c ≡ cond want log db) =
    subst (λ (e : List Event). FileLeft mixes log db want e c) is one in
    elim two [ inl e ↦ e | inr e ↦ e ]
