-- What single reads say of the next data record: fewer bytes, none or one, or all of them.
use Rattle.std.proofs.Common.{◌≡◌, ℕ, ◌+◌, ◌≤◌, ◌<◌, inr, Bool, true, List, [], ◌∷◌, length, map}
use Rattle.std.proofs.Common.{arith, refl, sym, ap, ◌∙◌, subst, Option}
use Rattle.std.specs.Bool.{MatchBool}
use Rattle.std.specs.Io.KnownBytes.{Consumes}
use Rattle.edf_header.specs.Header.{Layout, IsLayout, most_records}
use Rattle.edf_tal.specs.Block.{BlocksParseTo, BlocksHaveFirstFault, BlocksAreRefused}
use Rattle.edf_tal.specs.Block.{split_by_sizes}
use Rattle.edf_tal.specs.declared.place.TalFault.{TalFault}
use Rattle.edf_tal.specs.declared.place.TalFault.TheVariants.{Memory as TalMemory}
use Rattle.edf_fragment.specs.Fragment.{DataRecord, IsDataRecord, blocks, ordinary_bytes}
use Rattle.edf_fragment.specs.Reading.{ReadsRecord, IsEndOfRecords}
use Rattle.edf_fragment.specs.Stops.{ReadsFewerBytes, RefusesRecord}
use Rattle.edf_fragment.specs.Reading.{IsNextFault}
use Rattle.edf_fragment.specs.declared.advance.Progress.{Progress}
use Rattle.edf_fragment.specs.declared.fault.FragmentFault.{FragmentFault}
use Rattle.edf_fragment.specs.declared.fault.FragmentFault.TheVariants.{Tal, Memory}
use Rattle.edf_fragment.proofs.Layouts.{joined, cut-blocks}

-- fewer bytes are within more
pub fewer : (n m : ℕ) (left rest : Option (List ℕ)) → n ≤ m → ReadsFewerBytes n left rest →
    ReadsFewerBytes m left rest
fewer n m left rest low r = record {
  bytes = r.bytes;
  read = r.read;
  fewer =
      omega (arith, r.fewer);
}

no-bytes : (left rest : Option (List ℕ)) (bytes : List ℕ) → length bytes < 1 →
    Consumes left rest bytes → Consumes left rest []
no-bytes left rest [] low read = read
no-bytes left rest (x ∷ bytes) low read = absurd (omega arith)

-- no byte, where fewer than one were read
pub none-read : (n : ℕ) (left rest : Option (List ℕ)) → n ≤ 1 → ReadsFewerBytes n left rest →
    Consumes left rest []
none-read n left rest low r = no-bytes left rest r.bytes (omega (arith, r.fewer)) r.read

-- a list of one
pub one_byte : (left rest : Option (List ℕ)) (b : List ℕ) → length b ≡ 1 → Consumes left rest b →
    (x : ℕ) × Consumes left rest (x ∷ [])
one_byte left rest [] len read = absurd (omega arith)
one_byte left rest (x ∷ []) len read = (x, read)
one_byte left rest (x ∷ y ∷ b) len read = absurd (omega arith)

-- ---- a data record that was read whole

pub record HasWhole (l : Layout) (p : Progress) (left rest : Option (List ℕ))
    (whole : List ℕ) : Type 0 where
  pub may_come : p.given < most_records l.count
  pub len : length whole ≡ l.record_bytes
  pub read : Consumes left rest whole

-- its blocks have no fault
given_whole : (l : Layout) (p : Progress) (left rest : Option (List ℕ)) (whole : List ℕ)
    (r : DataRecord) → HasWhole l p left rest whole → BlocksParseTo (blocks l whole) l.start p.place
    r.start r.annotations → r.samples ≡ ordinary_bytes l whole → ReadsRecord l p left rest r
given_whole l p left rest whole r h read samples =
    let is : IsDataRecord l p.place whole r =
    record { len = h.len; read = read; samples_are = samples } in
    record { bytes = whole; may_come = h.may_come; read = h.read; is_record = is }

refused_blocks : (l : Layout) (p : Progress) (left rest : Option (List ℕ)) (whole : List ℕ)
    (nth : ℕ) (e : TalFault) → HasWhole l p left rest whole → nth ≡ p.given + 1 →
    BlocksHaveFirstFault (blocks l whole) l.start p.place e → RefusesRecord l p left rest nth e
refused_blocks l p left rest whole nth e h is fault =
    record {
      bytes = whole;
      is_nth = is;
      may_come = h.may_come;
      read = h.read;
      len = h.len;
      refused = fault;
    }

-- the fault where they have one, or where memory ran out
told_blocks : (l : Layout) (p : Progress) (left rest : Option (List ℕ)) (whole : List ℕ) (nth : ℕ)
    (e : TalFault) (told : FragmentFault) → HasWhole l p left rest whole → nth ≡ p.given + 1 → (e ≡
    TalMemory → told ≡ Memory) → ((e ≡ TalMemory → ⊥) → told ≡ Tal nth e) → BlocksAreRefused (blocks
    l whole) l.start p.place e → IsNextFault l p left rest told
told_blocks l p left rest whole nth TalMemory told h is memory other (start, list, read) =
    let r : DataRecord = record {
      start = start;
      samples = ordinary_bytes l whole;
      annotations =
          list;
    } in
    let gives = given_whole l p left rest whole r h read refl in
    subst (IsNextFault l p left rest) (sym (memory refl))
    (record { may_come = h.may_come; read = inr (r, gives) })
told_blocks l p left rest whole nth e told h is memory other fault =
    subst (IsNextFault l p left rest) (sym (other (λ no. cc)))
    (refused_blocks l p left rest whole nth e h is fault)

-- ---- and cut

pub record WasCut (l : Layout) (p : Progress) (left rest : Option (List ℕ)) (whole samples : List ℕ)
    (bs : List (List ℕ)) : Type 0 where
  pub has : HasWhole l p left rest whole
  pub samples_are : samples ≡ ordinary_bytes l whole
  pub blocks_are : bs ≡ blocks l whole

-- by the buffers: the whole data record, its samples, its joined blocks and their sizes
pub was_cut : (l : Layout) (p : Progress) (left rest : Option (List ℕ)) (there : Bool)
    (whole filled samples block sizes : List ℕ) → IsLayout l → p.given < most_records l.count →
    MatchBool there (Consumes left rest filled) (IsEndOfRecords l p left rest) → there ≡ true →
    length filled ≡ l.record_bytes → whole ≡ filled → samples ≡ ordinary_bytes l whole → block ≡
    joined (blocks l whole) → sizes ≡ map (λ b. b.bytes) l.blocks → WasCut l p left rest whole
    samples (split_by_sizes sizes block)
was_cut l p left rest there whole filled samples block sizes i wanted step is-there len same
    samples-are block-is sizes-are =
    let read : Consumes left rest filled =
    subst (λ (b : Bool). MatchBool b (Consumes left rest filled) (IsEndOfRecords l p left rest))
    is-there step in
    let whole-len : length whole ≡ l.record_bytes = ap (λ (x : List ℕ). length x) same ∙ len in
    record {
      has = record {
        may_come = wanted;
        len = whole-len;
        read =
            subst (λ (x : List ℕ). Consumes left rest x) (sym same) read;
      };
      samples_are = samples-are;
      blocks_are = cut-blocks l whole sizes block i whole-len sizes-are block-is;
    }

-- the record that it is said to be
pub given_record : (l : Layout) (p : Progress) (left rest : Option (List ℕ))
    (whole samples : List ℕ) (bs : List (List ℕ)) (s : ℕ) (r t : DataRecord) → WasCut l p left rest
    whole samples bs → s ≡ l.start → BlocksParseTo bs s p.place t.start t.annotations → r ≡ t →
    t.samples ≡ samples → ReadsRecord l p left rest r
given_record l p left rest whole samples bs s r t c from read same same-samples =
    let here = subst (λ (x : List (List ℕ)). BlocksParseTo x s p.place t.start t.annotations)
    c.blocks_are read in
    let there = subst (λ (n : ℕ). BlocksParseTo (blocks l whole) n p.place t.start t.annotations)
    from here in
    subst (ReadsRecord l p left rest) (sym same)
    (given_whole l p left rest whole t c.has there (same-samples ∙ c.samples_are))

-- the fault of its refused blocks
pub told_cut : (l : Layout) (p : Progress) (left rest : Option (List ℕ)) (whole samples : List ℕ)
    (bs : List (List ℕ)) (s nth : ℕ) (e : TalFault) (told : FragmentFault)
    → WasCut l p left rest whole samples bs → s ≡ l.start → nth ≡ p.given + 1 →
    (e ≡ TalMemory → told ≡ Memory) → ((e ≡ TalMemory → ⊥) → told ≡ Tal nth e)
    → BlocksAreRefused bs s p.place e → IsNextFault l p left rest told
told_cut l p left rest whole samples bs s nth e told c from is memory other refusal =
    let here = subst (λ (x : List (List ℕ)). BlocksAreRefused x s p.place e) c.blocks_are refusal in
    told_blocks l p left rest whole nth e told c.has is memory other
    (subst (λ (n : ℕ). BlocksAreRefused (blocks l whole) n p.place e) from here)
