-- An export is accepted again, since it is a fragment of records that are held; equal holdings have
-- equal exports.
use Rattle.std.proofs.Common.{◌≡◌, ◌≢◌, ℕ, List, [], ◌∷◌, sym, ap, ◌∙◌, subst}
use Rattle.std.proofs.lemmas.Bool.{cond-true}
use Rattle.edf_header.specs.Key.{Key}
use Rattle.edf_fragment.specs.Fragment.{DataRecord}
use Rattle.edf_fragment.specs.Parsed.{Fragment}
use Rattle.edf_holdings.specs.Same.{same_key}
use Rattle.edf_holdings.specs.Holdings.{Holdings, IsSound, nothing_held}
use Rattle.edf_holdings.specs.Reply.{after_one}
use Rattle.edf_holdings.proofs.Same.{same_key-refl}
use Rattle.edf_holdings.proofs.InSets.{own_list}
use Rattle.edf_holdings.proofs.ConflictFree.{recut_law}
use Rattle.edf_canonical.specs.File.{IsCanonicalFile}
use Rattle.edf_export.specs.Again.{IsAcceptedAgain, SameRecordsGiveSameFile}
use Rattle.edf_canonical.proofs.Files.{its-own, one-file}

has-some : (file : List ℕ) (k : Key) (rs : List DataRecord) → IsCanonicalFile file k rs → rs ≢ []
has-some file k [] is = absurd is
has-some file k (r ∷ rs) is = λ e. let none : ◌≡◌ {A = List DataRecord} (r ∷ rs) [] = e in cc

pub accepted_again : (cap : ℕ) (h : Holdings) (k : Key) (file : List ℕ) → IsSound cap h →
    IsCanonicalFile file k (h k) → IsAcceptedAgain cap h k file
accepted_again cap h k file sound is =
    let own = own_list cap h k sound (has-some file k (h k) is) in
    let left : after_one cap nothing_held (Fragment k (h k)) k ≡ h k =
    ap (λ (after : Holdings). after k) own.2
    ∙ cond-true (same_key k k) (h k) [] (same_key-refl k) in
    record {
      parses = its-own file k (h k) is;
      known = own.0;
      new = own.1;
      again = subst (λ (rs : List DataRecord). IsCanonicalFile file k rs) (sym left) is;
    }

pub export_alike : SameRecordsGiveSameFile
export_alike cap h tolds others sound told other_told free other_free same k file other is
    other_is =
    one-file file other k _ is (subst (λ (held : Holdings). IsCanonicalFile other k (held k))
    (sym (recut_law cap h tolds others sound told other_told free other_free same)) other_is)
