-- Whether cells are those of a recording, or of a data record of its key.
use Rattle.std.proofs.Common.{◌≡◌, ◌≢◌, ◌⊎◌, inl, inr, ℕ, ◌+◌, ◌*◌, ◌≤◌, ◌<◌, ℤ, pos, List, [], ◌∷◌}
use Rattle.std.proofs.Common.{length, Contains, refl, sym, ap, subst, ◌∙◌, arith, slice_index}
use Rattle.sqlite.specs.declared.types.Value.{Value}
use Rattle.sqlite.specs.declared.types.Value.TheVariants.{Int, Blob}
use Rattle.sqlite.specs.Order.{Row}
use Rattle.sqlite.specs.Tree.{Trees}
use Rattle.sqlite_value.specs.Order.{column}
use Rattle.edf_time.proofs.Decided.{Decided, like, both, either, at-most, same-bytes, some-below}
use Rattle.edf_field.specs.Number.{field}
use Rattle.edf_field.specs.Text.{IsPrintable}
use Rattle.edf_field.proofs.Cited.{patient-no-fault}
use Rattle.edf_header.specs.Key.{Key, IsKey, key_at, key_bytes}
use Rattle.edf_header.specs.Signal.{samples_in_all}
use Rattle.edf_header.specs.Identity.{HasLength, HasMark, KeyFails, IsCleanKey}
use Rattle.edf_header.specs.Identity.{identity_fault_order, signals_at}
use Rattle.edf_header.specs.Inside.Shape.{IsKeyPrefix}
use Rattle.edf_header.specs.declared.limits.TheConstants.{MOST_BLOCK_BYTES, MOST_ORDINARY_SIGNALS}
use Rattle.edf_header.specs.declared.signal_checks.Check.TheVariants as checks
use Rattle.edf_header.specs.declared.identity.IdentityFault.{IdentityFault}
use Rattle.edf_header.specs.declared.identity.IdentityFault.TheVariants as fault
use Rattle.edf_header.proofs.Decided.{same, same-int, first-bad}
use Rattle.edf_header.proofs.DecidedFields.{printable, spaces, follows-startdate}
use Rattle.edf_header.proofs.DecidedTexts.{patient-or-fault, duration}
use Rattle.edf_header.proofs.DecidedSignals.{checked}
use Rattle.edf_header.proofs.Faults.{is-key, key-clean}
use Rattle.edf_tal.specs.declared.place.Place.TheVariants.{Any}
use Rattle.edf_tal.specs.Canonical.{tals_text}
use Rattle.edf_tal.proofs.Cited.{some-answer}
use Rattle.edf_fragment.specs.Fragment.{DataRecord}
use Rattle.edf_tables.specs.Cells.{first_three}
use Rattle.edf_rows.specs.Cells.{recordings_in}
use Rattle.edf_rows.specs.Rows.{IsRecordingRow}
use Rattle.edf_rows.specs.Foreign.{IsBadRow, bad_start, bad_samples, bad_block}
use Rattle.edf_rows.specs.Rows.{IsRowOf}
use Rattle.edf_rows.specs.Inside.Shape.{OwnBlock}
use Rattle.edf_rows.proofs.RowCells.{other-block, refused-block, row-of, bad-len, bad-own}
use Rattle.edf_rows.proofs.RowCells.{bad-starts, blob-bytes}
use Rattle.edf_rows.proofs.Checks.{is_two}

-- ---- keys
abbrev IsAKey : List ℕ → Type 0
IsAKey b = (key_bytes (key_at b) ≡ b) × IsKey (key_at b)

-- bytes with a fault are no key's
no_key_at : (b : List ℕ) (e : IdentityFault) → identity_fault_order e < 11 → KeyFails b e →
    (k : Key) → IsKey k → key_bytes k ≢ b
no_key_at b e low fails k is e_is =
    subst (λ (l : List ℕ). IsCleanKey l 11) e_is (key-clean k is) e low fails

has_length : (b : List ℕ) → Decided (HasLength b)
has_length b =
    like (some-below (λ n. (1 ≤ n) × (length b ≡ 158 + 256 * n))
    (λ n. both (at-most 1 n) (same (length b) (158 + 256 * n)))
    (MOST_ORDINARY_SIGNALS + 1))
    (λ p. (p.0, p.2.0, omega (arith, p.1), p.2.1))
    (λ p. (p.0, omega (arith, p.2), (p.1, p.3)))

has_mark : (b : List ℕ) → Decided (HasMark b)
has_mark b = either (both (same (slice_index b 80) 68) (spaces (field b 140 10)))
    (same (slice_index b 80) 88)

key_of_front : (b : List ℕ) → IsKeyPrefix b → IsAKey b ⊎ ((k : Key) → IsKey k → key_bytes k ≢ b)
key_of_front b front =
    elim (checked checks.Label (signals_at b)) [
      | inr bad ↦ inr (no_key_at b (fault.Label (bad.0 + 1)) (omega arith) (bad.0, bad.1, refl))
      | inl labels ↦ elim (checked checks.Physical (signals_at b)) [
        | inr bad ↦ inr (no_key_at b (fault.Physical (bad.0 + 1)) (omega arith) (
          bad.0,
          bad.1,
          refl,
        ))
        | inl physical ↦ elim (checked checks.Digital (signals_at b)) [
          | inr bad ↦ inr (no_key_at b (fault.Digital (bad.0 + 1)) (omega arith) (
            bad.0,
            bad.1,
            refl,
          ))
          | inl digital ↦ elim (checked checks.Samples (signals_at b)) [
            | inr bad ↦ inr (no_key_at b (fault.Samples (bad.0 + 1)) (omega arith) (
              bad.0,
              bad.1,
              refl,
            ))
            | inl samples ↦ elim (at-most (2 * samples_in_all (signals_at b)) MOST_BLOCK_BYTES) [
              | inr never ↦ inr (no_key_at b fault.Size (omega arith)
                  (elim (Rattle.std.proofs.lemmas.Bool.cases_lt MOST_BLOCK_BYTES
                  (2 * samples_in_all (signals_at b))) [
                    | inl more ↦ more
                    | inr few ↦
                        absurd (never few)
                  ]))
              | inl size ↦ inl (is-key b front labels physical digital samples size)
            ]
          ]
        ]
      ]
    ]

key_or_none : (b : List ℕ) → IsAKey b ⊎ ((k : Key) → IsKey k → key_bytes k ≢ b)
key_or_none b =
    elim (has_length b) [
      | inr never ↦ inr (no_key_at b fault.Length (omega arith) never)
      | inl len ↦ elim (first-bad IsPrintable printable b) [
        | inr bad ↦ inr (no_key_at b (fault.Unprintable bad.0) (omega arith) bad.1)
        | inl text ↦ elim (patient-or-fault (field b 0 80)) [
          | inr why ↦ inr (no_key_at b fault.Patient (omega arith)
              (λ is. patient-no-fault (field b 0 80) why.0 is why.1))
          | inl person ↦ elim (both (has_mark b) (follows-startdate (key_at b).after)) [
            | inr never ↦ inr (no_key_at b fault.Recording (omega arith) never)
            | inl recording ↦ elim (duration (field b 150 8)) [
              | inr never ↦ inr (no_key_at b fault.Duration (omega arith) (λ n is. never (n, is)))
              | inl lasts ↦ key_of_front b (record {
                len = len;
                printable = text;
                patient = person;
                mark = recording.0;
                after = recording.1;
                duration = lasts;
              })
            ]
          ]
        ]
      ]
    ]

-- ---- values
int_or : (v : Value) → ((n : ℤ) × (v ≡ Int n)) ⊎ ((n : ℤ) → v ≢ Int n)
int_or (Int m) = inl (m, refl)
int_or v = inr (λ n e. absurd (cc))

blob_or : (v : Value) → ((b : List ℕ) × (v ≡ Blob b)) ⊎ ((b : List ℕ) → v ≢ Blob b)
blob_or (Blob b) = inl (b, refl)
blob_or v = inr (λ n e. absurd (cc))

-- ---- a row of the table of recordings
pub recording_or : (trees : Trees) (row : Row) → Contains (recordings_in trees) row →
    Decided (IsRecordingRow row)
recording_or trees row c =
    elim (int_or (column row 0)) [
      | inr none ↦ inr (λ is. none is.id (ap (λ (r : Row). column r 0) is.cells))
      | inl id ↦ elim (blob_or (column row 1)) [
        | inr none ↦ inr (λ is. none (key_bytes is.key) (ap (λ (r : Row). column r 1) is.cells))
        | inl bytes ↦ elim (key_or_none bytes.0) [
          | inr none ↦ inr (λ is. none is.key is.is_key
              (blob-bytes (key_bytes is.key) bytes.0 (sym (ap (λ (r : Row). column r 1) is.cells)
              ∙ bytes.1)))
          | inl key ↦ inl (record {
            id = id.0;
            key = key_at bytes.0;
            cells = is_two trees row c
                ∙ (λ i. id.1 i ∷ (bytes.1 ∙ ap Blob (sym key.0)) i ∷ []);
            is_key = key.1;
          })
        ]
      ]
    ]

-- ---- a row of the table of records
own_block_or : (block : List ℕ) → ((start : ℕ) × (list : _) × OwnBlock block start list)
    ⊎ Rattle.edf_rows.specs.Inside.Shape.NoOwnBlock block
own_block_or block =
    elim (some-answer block 0 Any) [
      | inr refused ↦ inr (refused-block block refused.0 refused.1)
      | inl read ↦ elim (same-bytes block (tals_text 0 read.0 read.1)) [
        | inl is ↦ inl (read.0, read.1, record { read = read.2; written = is })
        | inr other ↦ inr (other-block block read.0 read.1 read.2 other)
      ]
    ]

three : (k : Key) (start samples block : Value) → IsBadRow k (start ∷ samples ∷ block ∷ [])
    ⊎ ((r : DataRecord) × IsRowOf k r (start ∷ samples ∷ block ∷ []))
three k start samples block =
    elim (int_or start) [
      | inr none ↦ inl (bad_start (λ n is. none (pos n) is.0))
      | inl n ↦ elim (blob_or samples) [
        | inr none ↦ inl (bad_samples (λ are. none are.0 are.1))
        | inl s ↦ elim (blob_or block) [
          | inr none ↦ inl (bad_block (λ own. none own.block own.is_block))
          | inl b ↦ subst (λ (row : Row). IsBadRow k row ⊎ ((r : DataRecord) × IsRowOf k r row))
              (λ i. sym n.1 i ∷ sym s.1 i ∷ sym b.1 i ∷ [])
              (elim (same (length s.0) (2 * samples_in_all k.signals)) [
                | inr other ↦ inl (bad-len k (Int n.0) s.0 (Blob b.0) other)
                | inl len ↦ elim (own_block_or b.0) [
                  | inr none ↦ inl (bad-own k (Int n.0) (Blob s.0) b.0 none)
                  | inl own ↦ elim (same-int (pos own.0) n.0) [
                    | inr other ↦ inl (bad-starts k n.0 (Blob s.0) b.0 own.0 own.1 own.2 other)
                    | inl is ↦ inr (
                      record { start = own.0; samples = s.0; annotations = own.1 },
                      subst (λ (m : ℤ). IsRowOf k (record {
                        start = own.0;
                        samples = s.0;
                        annotations = own.1;
                      }) (Int m ∷ Blob s.0 ∷ Blob b.0 ∷ [])) is
                          (row-of k own.0 s.0 b.0 own.1 own.2 len),
                    )
                  ]
                ]
              ])
        ]
      ]
    ]

pub row_or : (k : Key) (row : Row) → row ≡ first_three row → IsBadRow k row
    ⊎ ((r : DataRecord) × IsRowOf k r row)
row_or k row is = subst (λ (row : Row). IsBadRow k row ⊎ ((r : DataRecord) × IsRowOf k r row))
    (sym is) (three k (column row 0) (column row 1) (column row 2))
