-- From an empty buffer: a header, and then a body.
use Rattle.std.proofs.Common.{◌≡◌, ℕ, List, [], ◌++◌, refl, sym, ◌∙◌, subst, append-nil}
use Rattle.std.specs.Io.KnownBytes.{Appends}
use Rattle.edf_canonical.specs.Output.{Buffered, Writes, WritesPrefix}
use Rattle.edf_canonical.proofs.Puts.{writes-then, front-written, all-written}

module _ (a b : Buffered) (header body : List ℕ) (none : a.held ≡ []) where
  pub header_stops : (left : List ℕ) → Writes a b header left →
      WritesPrefix a.contents b.contents (header ++ body)
  header_stops left w = front-written a b header (header ++ body) body left none refl w

  module _ (c : Buffered) (head : Writes a b header b.held) where
    pub body_stops : (left : List ℕ) → Writes b c body left →
        WritesPrefix a.contents c.contents (header ++ body)
    body_stops left w = front-written a c (header ++ body) (header
        ++ body) [] left none (sym (append-nil (header ++ body)))
        (writes-then a b c header body left head w)

    module _ (d : Buffered) (put : Writes b c body c.held) where
      whole : Writes a c (header ++ body) c.held
      whole = writes-then a b c header body c.held head put

      pub flush_stops : (left : List ℕ) → Writes c d [] left →
          WritesPrefix a.contents d.contents (header ++ body)
      flush_stops left w =
          front-written a d ((header ++ body) ++ []) (header
          ++ body) [] left none (sym (append-nil (header ++ body))
          ∙ sym (append-nil ((header ++ body) ++ [])))
          (writes-then a c d (header ++ body) [] left whole w)

      pub all_sent : Writes c d [] [] → Appends a.contents d.contents (header ++ body)
      all_sent w = all-written a d (header ++ body) none
          (subst (λ (l : List ℕ). Writes a d l []) (append-nil (header ++ body))
          (writes-then a c d (header ++ body) [] [] whole w))
