-- Bytes put through a buffer, one piece after another.
use Rattle.std.proofs.Common.{◌≡◌, ℕ, List, [], ◌++◌, take, drop, refl, sym, ap, ◌∙◌, subst}
use Rattle.std.proofs.Common.{append_assoc, append-nil, take-append-drop, Option, Result, Ok, Err}
use Rattle.std.specs.Io.KnownBytes.{Appends}
use Rattle.std.proofs.KnownBytes.{Appends-trans, Appends-nil}
use Rattle.edf_fragment.specs.Failures.{saturating_increment}
use Rattle.edf_canonical.specs.Output.{Buffered, Writes, CountsOutputFault, IsWrittenOrBuffered}
use Rattle.edf_canonical.specs.Output.{IsFlushed, WritesPrefix}
use Rattle.edf_canonical.specs.declared.fault.OutputFault.{OutputFault}
use Rattle.edf_canonical.specs.declared.fault.OutputFault.TheVariants.{Write}

-- some bytes, and then others
pub writes-then : (a b c : Buffered) (x y left : List ℕ) → Writes a b x b.held → Writes b c y left →
    Writes a c (x ++ y) left
writes-then a b c x y left p q = record {
  prefix = p.prefix ++ q.prefix;
  wrote = Appends-trans a.contents b.contents c.contents p.prefix q.prefix p.wrote q.wrote;
  parts = sym (append_assoc a.held x y) ∙ ap (λ (l : List ℕ). l ++ y) p.parts
      ∙ append_assoc p.prefix b.held y ∙ ap (λ (l : List ℕ). p.prefix ++ l) q.parts
      ∙ sym (append_assoc p.prefix q.prefix left);
}

-- some bytes, and then none of others
pub writes-no-more : (a b : Buffered) (x y left : List ℕ) → Writes a b x left →
    Writes a b (x ++ y) (left ++ y)
writes-no-more a b x y left p = record {
  prefix = p.prefix;
  wrote = p.wrote;
  parts = sym (append_assoc a.held x y) ∙ ap (λ (l : List ℕ). l ++ y) p.parts
      ∙ append_assoc p.prefix left y;
}

-- what was held back, or a front of it
pub flushed : (a b : Buffered) → Appends a.contents b.contents a.held → Writes a b [] []
flushed a b wrote = record { prefix = a.held; wrote = wrote; parts = refl }

pub flush-failed : (a b : Buffered) (n : ℕ) → Appends a.contents b.contents (take n a.held) →
    (left : List ℕ) × Writes a b [] left
flush-failed a b n wrote = (
  drop n a.held,
  record {
    prefix = take n a.held;
    wrote = wrote;
    parts = append-nil a.held
        ∙ sym (take-append-drop n a.held);
  },
)

-- bytes after an empty buffer, or a front of them
pub sent : (a b : Buffered) (bytes : List ℕ) → a.held ≡ [] → b.held ≡ [] →
    Appends a.contents b.contents bytes → Writes a b bytes b.held
sent a b bytes none left wrote = record {
  prefix = bytes;
  wrote = wrote;
  parts = ap (λ (l : List ℕ). l ++ bytes) none ∙ sym (append-nil bytes)
      ∙ ap (λ (l : List ℕ). bytes ++ l) (sym left);
}

pub send-failed : (a b : Buffered) (bytes : List ℕ) (n : ℕ) → a.held ≡ [] →
    Appends a.contents b.contents (take n bytes) → (left : List ℕ) × Writes a b bytes left
send-failed a b bytes n none wrote = (
  drop n bytes,
  record {
    prefix = take n bytes;
    wrote = wrote;
    parts =
        ap (λ (l : List ℕ). l ++ bytes) none ∙ sym (take-append-drop n bytes);
  },
)

-- bytes that are held back, and bytes for which there is no room
pub holds : (a b : Buffered) (bytes : List ℕ) → b.contents ≡ a.contents → b.held ≡ a.held ++ bytes →
    Writes a b bytes b.held
holds a b bytes same held = record {
  prefix = [];
  wrote = subst (λ (c : Option (List ℕ)). Appends a.contents c []) (sym same)
      (Appends-nil a.contents);
  parts = sym held;
}

pub holds-none : (a b : Buffered) (bytes : List ℕ) → b.contents ≡ a.contents → (left : List ℕ)
    × Writes a b bytes left
holds-none a b bytes same = (
  a.held ++ bytes,
  record {
    prefix = [];
    wrote =
        subst (λ (c : Option (List ℕ)). Appends a.contents c []) (sym same)
        (Appends-nil a.contents);
    parts = refl;
  },
)

-- from an empty buffer, a front of all
pub front-written : (a b : Buffered) (bytes all more left : List ℕ) → a.held ≡ [] → all ≡ bytes
    ++ more → Writes a b bytes left → WritesPrefix a.contents b.contents all
front-written a b bytes all more left none all-is p = record {
  prefix = p.prefix;
  remaining = left ++ more;
  parts = all-is ∙ ap (λ (l : List ℕ). l ++ more) (sym (ap (λ (l : List ℕ). l ++ bytes) none)
      ∙ p.parts) ∙ append_assoc p.prefix left more;
  wrote = p.wrote;
}

pub all-written : (a b : Buffered) (bytes : List ℕ) → a.held ≡ [] → Writes a b bytes [] →
    Appends a.contents b.contents bytes
all-written a b bytes none p =
    let same : p.prefix ≡ bytes = sym (append-nil p.prefix) ∙ sym p.parts
    ∙ ap (λ (l : List ℕ). l ++ bytes) none in
    subst (Appends a.contents b.contents) same p.wrote

-- the same bytes
pub writes-same : (a b : Buffered) (x y left : List ℕ) → x ≡ y → Writes a b x left →
    Writes a b y left
writes-same a b x y left same p = subst (λ (l : List ℕ). Writes a b l left) same p

-- ---- answers

counted-after : (old mid new : ℕ) (fault : OutputFault) → mid ≡ old →
    CountsOutputFault mid new fault → CountsOutputFault old new fault
counted-after old mid new fault same counts =
    subst (λ (n : ℕ). CountsOutputFault n new fault) same counts

-- a fault of the flush before
pub flush-refused : (a b : Buffered) (bytes : List ℕ) (fault : OutputFault) →
    IsFlushed a b (Err fault) → IsWrittenOrBuffered a b bytes (Err fault)
flush-refused a b bytes fault f = (
  (f.0.0 ++ bytes, writes-no-more a b [] bytes f.0.0 f.0.1),
  subst (CountsOutputFault a.failures b.failures) (sym f.1) f.2,
)

-- bytes after others that were put
pub put-after : (a b c : Buffered) (x y : List ℕ) (result : Result (Unit {0}) OutputFault) →
    Writes a b x b.held → b.failures ≡ a.failures → IsWrittenOrBuffered b c y result →
    IsWrittenOrBuffered a c (x ++ y) result
put-after a b c x y (Ok u) w same p = (writes-then a b c x y c.held w p.0, p.1 ∙ same)
put-after a b c x y (Err fault) w same p = (
  (p.0.0, writes-then a b c x y p.0.0 w p.0.1),
  counted-after a.failures b.failures c.failures fault same p.1,
)

-- and after a flush
pub put-flushed : (a b c : Buffered) (bytes : List ℕ) (result : Result (Unit {0}) OutputFault)
    (u : Unit {0}) → IsFlushed a b (Ok u) → IsWrittenOrBuffered b c bytes result →
    IsWrittenOrBuffered a c bytes result
put-flushed a b c bytes result u f p =
    put-after a b c [] bytes result (subst (Writes a b []) (sym f.1) f.0) f.2 p

-- bytes that fail leave those after them
pub put-fails : (a b : Buffered) (x y : List ℕ) (fault : OutputFault) →
    IsWrittenOrBuffered a b x (Err fault) → IsWrittenOrBuffered a b (x ++ y) (Err fault)
put-fails a b x y fault p = ((p.0.0 ++ y, writes-no-more a b x y p.0.0 p.0.1), p.1)

-- the same, of bytes that are these
pub put-then : (a b c : Buffered) (x y all : List ℕ) (u : Unit {0})
    (result : Result (Unit {0}) OutputFault) → all ≡ x ++ y → IsWrittenOrBuffered a b x (Ok u) →
    IsWrittenOrBuffered b c y result → IsWrittenOrBuffered a c all result
put-then a b c x y all u result is p q =
    subst (λ (l : List ℕ). IsWrittenOrBuffered a c l result) (sym is)
    (put-after a b c x y result p.0 p.1 q)

pub put-stops : (a b : Buffered) (x y all : List ℕ) (fault : OutputFault) → all ≡ x ++ y →
    IsWrittenOrBuffered a b x (Err fault) → IsWrittenOrBuffered a b all (Err fault)
put-stops a b x y all fault is p =
    subst (λ (l : List ℕ). IsWrittenOrBuffered a b l (Err fault)) (sym is)
    (put-fails a b x y fault p)

-- some were put, others fail, and others were to follow
pub put-fails-between : (a b c : Buffered) (x y more all : List ℕ) (fault : OutputFault) →
    Writes a b x b.held → b.failures ≡ a.failures → IsWrittenOrBuffered b c y (Err fault) →
    all ≡ (x ++ y)
    ++ more
    → IsWrittenOrBuffered a c all (Err fault)
put-fails-between a b c x y more all fault w same p is =
    subst (λ (l : List ℕ). IsWrittenOrBuffered a c l (Err fault)) (sym is)
    (put-fails a c (x ++ y) more fault (put-after a b c x y (Err fault) w same p))

-- bytes that are written through, or a front of them
pub sends-through : (a b c : Buffered) (bytes : List ℕ) (u : Unit {0}) → IsFlushed a b (Ok u) →
    c.held ≡ b.held → Appends b.contents c.contents bytes → c.failures ≡ b.failures →
    IsWrittenOrBuffered a c bytes (Ok u)
sends-through a b c bytes u f held wrote same =
    put-flushed a b c bytes (Ok u) u f (sent b c bytes f.1 (held ∙ f.1) wrote, same)

pub fails-through : (a b c : Buffered) (bytes : List ℕ) (n : ℕ) (u : Unit {0}) →
    IsFlushed a b (Ok u) → Appends b.contents c.contents (take n bytes) →
    c.failures ≡ saturating_increment b.failures
    → IsWrittenOrBuffered a c bytes (Err Write)
fails-through a b c bytes n u f wrote counts =
    put-flushed a b c bytes (Err Write) u f (send-failed b c bytes n f.1 wrote, counts)
