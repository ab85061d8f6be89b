-- What one row of the table of recordings tells.
use Rattle.std.proofs.Common.{◌≡◌, ◌≢◌, ℕ, ◌<◌, ◌≤◌, ℤ, List, [], ◌∷◌, length, Option, Some, None}
use Rattle.std.proofs.Common.{Contains, Ok, Err, Result, IfOk, refl, sym, ap, subst, ◌∙◌, arith}
use Rattle.std.proofs.lemmas.List.{length-map, get_or_past}
use Rattle.sqlite.specs.declared.types.Value.TheVariants.{Null, Int, Blob}
use Rattle.sqlite.specs.declared.error.Error.{Error}
use Rattle.sqlite.specs.Order.{Row}
use Rattle.sqlite.specs.Tree.{Trees}
use Rattle.sqlite_value.specs.Order.{column}
use Rattle.edf_header.specs.Key.{Key, IsKey, key_bytes}
use Rattle.edf_header.specs.Identity.{IsFirstKeyFault, IsCleanKey, identity_fault_order}
use Rattle.edf_header.specs.declared.identity.IdentityFault.{IdentityFault}
use Rattle.edf_header.specs.declared.identity.IdentityFault.TheVariants.{Memory}
use Rattle.edf_field.specs.Number.{duration_of}
use Rattle.edf_header.proofs.Faults.{key-clean}
use Rattle.edf_holdings.proofs.Joining.{lasting}
use Rattle.edf_rows.specs.Cells.{recording_cells, recordings_in, records_in}
use Rattle.edf_rows.specs.Foreign.{bad_recording, bad_records}
use Rattle.edf_rows.proofs.Rows.{mapped}
use Rattle.edf_rows.specs.Inside.Records.{ChecksRecords}
use Rattle.edf_rows.specs.Inside.Checked.{ChecksRow}
use Rattle.edf_rows.proofs.RowCells.{blob-bytes}
use Rattle.edf_rows.proofs.GivenRows.{all_any}

pub is_two : (trees : Trees) (row : Row) → Contains (recordings_in trees) row →
    row ≡ column row 0 ∷ column row 1 ∷ []
is_two trees row c =
    let it = mapped (λ r. column r 0 ∷ column r 2 ∷ []) (λ (x : Row). Unit {0}) (trees 0) row
    (all_any (trees 0)) c in
    it.2 ∙ sym (ap (λ (r : Row). column r 0 ∷ column r 1 ∷ []) it.2)

pub no_int : (cap : ℕ) (trees : Trees) (row : Row) → ((id : ℤ) → column row 0 ≢ Int id) →
    ChecksRow cap trees row None
no_int cap trees row none c =
    bad_recording row c (λ is. none is.id (ap (λ (r : Row). column r 0) is.cells))

pub no_blob : (cap : ℕ) (trees : Trees) (row : Row) →
    ((bytes : List ℕ) → column row 1 ≢ Blob bytes) → ChecksRow cap trees row None
no_blob cap trees row none c =
    bad_recording row c (λ is. none (key_bytes is.key) (ap (λ (r : Row). column r 1) is.cells))

order-below : (fault : IdentityFault) → fault ≢ Memory → identity_fault_order fault < 11
order-below Memory other = absurd (other refl)
order-below fault other = omega arith

pub no_key : (cap : ℕ) (trees : Trees) (row : Row) (bytes : List ℕ) (fault : IdentityFault) →
    column row 1 ≡ Blob bytes → IsFirstKeyFault bytes fault → fault ≢ Memory →
    ChecksRow cap trees row None
no_key cap trees row bytes fault is first other c = bad_recording row c (λ has.
    let same : key_bytes has.key ≡ bytes =
    blob-bytes (key_bytes has.key) bytes (sym (ap (λ (r : Row). column r 1) has.cells) ∙ is) in
    let clean = key-clean has.key has.is_key in
    subst (λ b. IsCleanKey b 11) same clean fault (order-below fault other) first.0)

pub long : (k : Key) → IsKey k → 0 < duration_of k.duration
long = lasting

pub told : (cap : ℕ) (trees : Trees) (row : Row) (id : ℤ) (k : Key) (o : Option ℕ) →
    column row 0 ≡ Int id → column row 1 ≡ Blob (key_bytes k) → IsKey k →
    ChecksRecords cap k (records_in trees id) o → ChecksRow cap trees row o
told cap trees row id k None first second key bad = λ c.
    let cells : row ≡ recording_cells id k = is_two trees row c ∙ (λ i. first i ∷ second i ∷ []) in
    bad_records id k (record { row = subst (Contains (recordings_in trees)) cells c; key = key })
    bad
told cap trees row id k (Some count) first second key has = λ c.
    let cells : row ≡ recording_cells id k =
    is_two trees row c ∙ (λ i. first i ∷ second i ∷ []) in (
      record {
        id = id;
        key = k;
        records = has.records;
        cells = cells;
        is_key = key;
        sound =
            has.sound;
        begins = has.begins;
        shown = has.shown;
        some = has.some;
        within_cap = has.within_cap;
      },
      has.count_is ∙ sym (ap length has.shown ∙ length-map has.records _),
    )

pub told_if : (cap : ℕ) (trees : Trees) (row : Row) (id : ℤ) (k : Key) (bytes : List ℕ)
    (r : Result (Option ℕ) Error) → column row 0 ≡ Int id → column row 1 ≡ Blob bytes →
    key_bytes k ≡ bytes → IsKey k → IfOk r (ChecksRecords cap k (records_in trees id)) →
    IfOk r (ChecksRow cap trees row)
told_if cap trees row id k bytes (Ok o) first second same key h =
    told cap trees row id k o first (second ∙ ap Blob (sym same)) key h
told_if cap trees row id k bytes (Err e) first second same key h = tt

past_null : (row : Row) (at : ℕ) → length row ≤ at → column row at ≡ Null
past_null row at h = get_or_past row at Null h

pub not_int : (row : Row) (at : ℕ) → length row ≤ at → (id : ℤ) → column row at ≢ Int id
not_int row at h id e = absurd (let n = past_null row at h in cc)

pub not_blob : (row : Row) (at : ℕ) → length row ≤ at → (bytes : List ℕ) →
    column row at ≢ Blob bytes
not_blob row at h bytes e = absurd (let n = past_null row at h in cc)
