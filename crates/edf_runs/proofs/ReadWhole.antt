-- A second reading that came to the end has read a whole fragment.
use Rattle.std.proofs.Common.{◌≡◌, ℕ, List, [], ◌++◌, sym, subst, arith}
use Rattle.std.proofs.Common.{append-nil, Option, None, Ok}
use Rattle.std.proofs.KnownBytes.{Consumes-trans}
use Rattle.edf_header.specs.Header.{Layout}
use Rattle.edf_fragment.specs.Fragment.{DataRecord, BeginWithDataRecords}
use Rattle.edf_fragment.specs.Reading.{ReadsHeader, IsNextAnswer, IsNextAnswerInState}
use Rattle.edf_fragment.specs.Reading.{IsEndOfRecords}
use Rattle.edf_fragment.specs.Reading.{initial_progress}
use Rattle.edf_fragment.specs.Whole.{ReadsFragment}
use Rattle.edf_tal.specs.declared.place.Place.TheVariants.{First}
use Rattle.edf_fragment.specs.declared.advance.Progress.{Progress}
use Rattle.edf_fragment.specs.declared.advance.ReaderState.{ReaderState}
use Rattle.edf_fragment.specs.declared.advance.ReaderState.TheVariants.{Reading}
use Rattle.edf_fragment.proofs.Fragments.{fragment_read}
use Rattle.edf_runs.specs.Read.{ReadsOn}

end-of : (l : Layout) (p q : Progress) (left rest : Option (List ℕ)) → p.state ≡ Reading →
    IsNextAnswer l p q left rest (Ok None) → IsEndOfRecords l p left rest
end-of l p q left rest going answer =
    (subst (λ (s : ReaderState). IsNextAnswerInState s l p q left rest (Ok None)) going answer).1

pub read-whole : (left opened middle rest : Option (List ℕ)) (l : Layout) (p q : Progress)
    (records : List DataRecord) → ReadsHeader left opened l →
    ReadsOn l initial_progress p opened middle records →
    IsNextAnswer l p q middle rest (Ok None) → ReadsFragment left rest l records
read-whole left opened middle rest l p q records header reads answer =
    let end = end-of l p q middle rest reads.state answer in
    fragment_read left opened rest l records header (record {
      bytes = reads.bytes ++ [];
      next_place = p.place;
      read = Consumes-trans opened middle rest reads.bytes [] reads.read end.read;
      end = end.end;
      are_records = subst (λ (b : List ℕ). BeginWithDataRecords l First b records p.place [])
          (sym (append-nil reads.bytes)) reads.are_records;
      least = omega (arith, end.least, reads.given);
      most = omega (arith, reads.within, reads.given);
    })
