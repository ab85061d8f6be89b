-- The proofs of the public laws that other crates' proofs cite; they cite no other file of these.
use Rattle.std.proofs.Common.{◌≡◌, ℕ, ◌*◌, ◌/◌, ◌^◌, ◌≤◌, ◌<◌, List, ◌⊎◌}
use Rattle.edf_field.specs.Number.{duration_of}
use Rattle.edf_field.specs.declared.number.TheConstants.{MOST_DURATION}
use Rattle.edf_header.specs.Key.{Key, IsKey, IsSized, MayStart, key_at, key_bytes}
use Rattle.edf_header.specs.Header.{HeaderRecord, AreSignals}
use Rattle.edf_header.specs.Fixed.{FixedPart, IsFixed, IsFixedHeader}
use Rattle.edf_header.specs.Header.{IsHeader, key_of, layout_of, IsLayout}
use Rattle.edf_header.specs.Fault.{FixedPartFails, SignalsFail, IsClean, IsHeaderFault}
use Rattle.edf_header.specs.Canonical.{IsCanonicalHeader}
use Rattle.edf_header.specs.Spelled.{IsReadAs, spelled_layout}
use Rattle.edf_header.specs.declared.fault.HeaderFault.{HeaderFault}
use Rattle.edf_header.specs.declared.limits.TheConstants.{MOST_BLOCK_SAMPLES, MOST_RECORDS}
use Rattle.edf_header.proofs.Keys as keys
use Rattle.edf_header.proofs.KeyLaws as key_laws
use Rattle.edf_header.proofs.FixedLaws as fixed_laws
use Rattle.edf_header.proofs.SignalLaws as signal_laws
use Rattle.edf_header.proofs.SpelledOnce as once
use Rattle.edf_header.proofs.HeaderOrFault as told
use Rattle.edf_header.proofs.CanonicalOne as canonical_one
use Rattle.edf_header.proofs.CanonicalHeader as canonical_headers

-- keys and their bytes
pub key-back : (k : Key) → IsSized k → key_at (key_bytes k) ≡ k
key-back = keys.key-back

pub one-key : (k other : Key) → IsKey k → IsKey other → key_bytes k ≡ key_bytes other → k ≡ other
one-key = key_laws.one-key

pub key-duration-some : (k : Key) → IsKey k → 0 < duration_of k.duration
key-duration-some = key_laws.key-duration-some

pub key-duration-bound : (k : Key) → IsKey k → duration_of k.duration ≤ MOST_DURATION
key-duration-bound = key_laws.key-duration-bound

-- the fixed part
pub fixed-clean : (bytes : List ℕ) (fixed : FixedPart) → IsFixedHeader bytes fixed →
    IsClean (FixedPartFails bytes) 14
fixed-clean = fixed_laws.fixed-clean

pub is-fixed : (bytes : List ℕ) (fixed : FixedPart) → IsFixedHeader bytes fixed → IsFixed fixed
is-fixed = fixed_laws.is-fixed

-- the signals
pub signals-clean : (bytes : List ℕ) (header : HeaderRecord) → AreSignals bytes header →
    IsClean (SignalsFail bytes header.fixed.signal_count) 21
signals-clean = signal_laws.signals-clean

-- headers
pub header-has-key : (bytes : List ℕ) (header : HeaderRecord) (rest : List ℕ) →
    IsHeader bytes header rest → IsKey (key_of header)
header-has-key = signal_laws.header-has-key

pub header-has-layout : (bytes : List ℕ) (header : HeaderRecord) (rest : List ℕ) →
    IsHeader bytes header rest → IsLayout (layout_of header)
header-has-layout = signal_laws.header-has-layout

pub one-header : (bytes : List ℕ) (header other : HeaderRecord) (rest other_rest : List ℕ) →
    IsHeader bytes header rest → IsHeader bytes other other_rest
    → (header ≡ other) × (rest ≡ other_rest)
one-header = once.one-header

pub header-no-fault : (bytes : List ℕ) (header : HeaderRecord) (rest : List ℕ)
    (fault : HeaderFault) → IsHeader bytes header rest → ¬ IsHeaderFault bytes fault
header-no-fault = once.header-no-fault

pub one-header-fault : (bytes : List ℕ) (fault other : HeaderFault) → IsHeaderFault bytes fault →
    IsHeaderFault bytes other → fault ≡ other
one-header-fault = once.one-header-fault

pub header-or-fault : (bytes : List ℕ) →
    ((header : HeaderRecord) × (rest : List ℕ) × IsHeader bytes header rest)
    ⊎ ((fault : HeaderFault) × IsHeaderFault bytes fault)
header-or-fault = told.header-or-fault

-- canonical headers
pub one-canonical-header : (bytes other : List ℕ) (key : Key) (start count block : ℕ) →
    IsCanonicalHeader bytes key start count block → IsCanonicalHeader other key start count block →
    bytes ≡ other
one-canonical-header = canonical_one.one-canonical-header

pub canonical-header-reads : (bytes : List ℕ) (key : Key) (start count block : ℕ) → IsKey key →
    MayStart key start → 1 ≤ count → count ≤ MOST_RECORDS → 1 ≤ block → block ≤ MOST_BLOCK_SAMPLES
    → IsCanonicalHeader bytes key start count block →
    IsReadAs bytes (spelled_layout key (start / 10 ^ 9 * 10 ^ 9) count block)
canonical-header-reads = canonical_headers.canonical-header-reads
