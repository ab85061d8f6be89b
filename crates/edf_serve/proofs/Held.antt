-- What an accepted file's receipt tells is held.
use Rattle.std.proofs.Common.{◌≡◌, ◌+◌, [], ◌∷◌, length, get_or, refl, sym, subst, inr, All}
use Rattle.std.proofs.Common.{Contains}
use Rattle.std.proofs.lemmas.List.Elements.{All-contains_itself}
use Rattle.sqlite_trees.specs.declared.store.Store.{Ghosts}
use Rattle.sqlite.specs.State.{HasCleanDisk}
use Rattle.edf_fragment.specs.Parsed.{Fragment}
use Rattle.edf_fragment.specs.Call.{InputState}
use Rattle.edf_fragment.proofs.Sound.{spelled-key, spelled-sound, spelled-begins}
use Rattle.edf_holdings.specs.Holdings.{Holdings, IsSound}
use Rattle.edf_holdings.specs.Reply.{IsWellFormed, IsAccepted, Accepted, after_one, reply}
use Rattle.edf_holdings.proofs.Accepted.{after_has_accepted}
use Rattle.edf_holdings.proofs.Once.{held_is_known, accepted_again_law}
use Rattle.edf_holdings.proofs.Sound.{stays_sound}
use Rattle.edf_store.specs.Held.{StoreModel, at, Holds}
use Rattle.edf_intake.specs.Submitted.{Accepts}
use Rattle.edf_intake.specs.declared.answer.Receipt.{Receipt}
use Rattle.edf_serve.specs.Laws.{HoldsFile, TakenIsHeld}

module _ {S : Type 0} (g : Ghosts S) (old new : StoreModel S) (from to : InputState)
    (receipt : Receipt)
    (accepts : Accepts g old new from to receipt) where
  told-sound : IsWellFormed (Fragment receipt.identity accepts.records)
  told-sound = (
    spelled-key accepts.read.bytes receipt.identity accepts.records accepts.read.is_file,
    spelled-sound accepts.read.bytes receipt.identity accepts.records accepts.read.is_file,
    spelled-begins accepts.read.bytes receipt.identity accepts.records accepts.read.is_file,
  )

  all-held : (h : Holdings) → IsSound old.cap h →
      reply old.cap h (Fragment receipt.identity accepts.records)
      ≡ Accepted receipt.identity receipt.new receipt.known →
      All (Contains (after_one old.cap h (Fragment receipt.identity accepts.records)
      receipt.identity)) accepts.records
  all-held h s answer = λ k d lt.
      (after_has_accepted old.cap h (Fragment receipt.identity accepts.records ∷ [])
      receipt.identity (get_or accepts.records k d) s (told-sound, tt)).1
      (inr (record {
        before = [];
        member = Fragment receipt.identity accepts.records;
        later = [];
        splits = refl;
        accepted = subst IsAccepted (sym answer) tt;
        has = (refl, All-contains_itself accepts.records k d lt);
      }))

  all-counted : (h : Holdings) → IsSound old.cap h →
      IsSound old.cap (after_one old.cap h (Fragment receipt.identity accepts.records)) →
      reply old.cap h (Fragment receipt.identity accepts.records)
      ≡ Accepted receipt.identity receipt.new receipt.known →
      length accepts.records ≡ receipt.new + receipt.known
  all-counted h s after answer =
      let again : reply old.cap (after_one old.cap h
      (Fragment receipt.identity accepts.records)) (Fragment receipt.identity accepts.records)
      ≡ Accepted receipt.identity 0 (receipt.new + receipt.known) =
      accepted_again_law old.cap h [] (Fragment receipt.identity accepts.records) [] s
      (told-sound, tt) receipt.identity receipt.new receipt.known answer in
      let known = held_is_known old.cap (after_one old.cap h
      (Fragment receipt.identity accepts.records)) receipt.identity accepts.records after
      told-sound (all-held h s answer) in
      let both : Accepted receipt.identity 0 (length accepts.records)
      ≡ Accepted receipt.identity 0 (receipt.new + receipt.known) = cc (again, known.0) in
      cc both

  pub holds-taken : (h : Holdings) → IsSound old.cap h → Holds g old h →
      HasCleanDisk (at g new) →
      HoldsFile g new receipt (record { old = old; from = from; to = to; submitted = accepts }) h
  holds-taken h sound held clean =
      let told = Fragment receipt.identity accepts.records in
      let answer = accepts.reply_is clean h held in
      let after : IsSound old.cap (after_one old.cap h told) =
      stays_sound old.cap h (told ∷ []) sound (told-sound, tt) in
      record {
        records = accepts.records;
        read = accepts.read;
        counted = all-counted h sound after answer;
        is_open = accepts.commits.is_open clean;
        held = after_one old.cap h told;
        held_is = refl;
        holds = accepts.commits.holdings h held;
        each = all-held h sound answer;
      }

pub taken_is_held : {S : Type 0} (g : Ghosts S) → TakenIsHeld g
taken_is_held g store receipt taken h sound held clean =
    holds-taken g taken.old store taken.from taken.to receipt taken.submitted h sound held clean
