-- What each picture has: whose recording it is, and from when to when.
use Rattle.std.specs.Prelude.{◌<◌}
use Rattle.std.specs.Prelude.{◌≡◌, ◌⊎◌, ◌==◌, ◌≤◌, ℕ, List, [], ◌∷◌, ◌++◌, codes, decimal}
use Rattle.std.specs.Prelude.{if◌then◌else◌, Option, Some, None, option_map, flat_map}
use Rattle.edf_picture.specs.Markup.{piece, escaped_text}
use Rattle.edf_picture.specs.declared.extent.Extent.{Extent}
use Rattle.edf_picture.specs.declared.heading.TheConstants.{STYLE}
use Rattle.edf_picture.specs.declared.heading.Title.{Title}
use Rattle.edf_time.specs.Civil.{window, IsInstantText}

-- ---- texts

-- what stands for a byte: for one that is named another, for any other what XML has for it
abbrev pub piece_with : ℕ → ℕ → ℕ → List ℕ
piece_with from to byte = if byte == from then to ∷ [] else piece byte

abbrev pub text_with : ℕ → ℕ → List ℕ → List ℕ
text_with from to text = flat_map (piece_with from to) text

-- ---- of whom and when it is

-- the code of the patient, where it is not left out, and that of the investigation
pub record Named : Type 0 where
  pub patient : Option (List ℕ)
  pub investigation : List ℕ

abbrev pub named_by : Title → Named
named_by title = record {
  patient = option_map (λ code. code.now) title.patient;
  investigation = title.investigation.now;
}

-- no code has a space, so that this is none
abbrev pub patient_words : Option (List ℕ) → List ℕ
patient_words None = codes "code left out"
patient_words (Some code) = code

-- each cut after so many characters
abbrev pub title_line : ℕ → Named → List ℕ
title_line limit named = codes "Patient " ++ (escaped_text limit (patient_words named.patient)
    ++ (codes ", investigation " ++ escaped_text limit named.investigation))

-- the title as it is drawn, a line for each code, and the line of times
abbrev pub drawn_texts : Named → List ℕ → List ℕ
drawn_texts named time = codes "<text class='b' x='8' y='24'>Patient "
    ++ (escaped_text 38 (patient_words named.patient)
    ++ (codes "</text><text class='b' x='8' y='44'>Investigation "
    ++ (escaped_text 38 named.investigation
    ++ (codes "</text><text x='8' y='64'>" ++ (time ++ codes "</text>")))))

-- an instant as a person reads it, with a space for the T; after 2184 none is told
abbrev pub IsInstantLabel : ℕ → List ℕ → Type 0
IsInstantLabel at label =
    ((text : List ℕ) × (at < window) × IsInstantText text at × (label ≡ text_with 84 32 text))
    ⊎ ((window ≤ at) × (label ≡ codes "after 2184"))

-- the end of the last of these runs, of which this is the first
abbrev pub last_end : Extent → List Extent → ℕ
last_end run [] = run.to
last_end run (next ∷ runs) = last_end next runs

-- without a gap it is complete from the first to the last instant; nobody knows what was before or
-- after
abbrev pub from_word : List Extent → List ℕ
from_word [] = codes "complete from "
from_word (run ∷ runs) = codes "from "

-- the start of the first run and the end of the last
abbrev pub IsTimeLine : List Extent → List ℕ → Type 0
IsTimeLine [] line = line ≡ codes "no data record"
IsTimeLine (run ∷ runs) line = (first : List ℕ) × (last : List ℕ)
    × IsInstantLabel run.from first × IsInstantLabel (last_end run runs) last
    × (line ≡ from_word runs ++ (first ++ (codes " to " ++ last)))

-- ---- the whole

-- the start of an SVG of this height, with its title and its description, which programs read out
abbrev pub names_of : ℕ → List ℕ → List ℕ → List ℕ → List ℕ
names_of height name time more = codes "<svg xmlns='http://www.w3.org/2000/svg' role='img' aria-labelledby='edf-title edf-desc' width='100%' height='"
    ++ (decimal height ++ (codes "'><title id='edf-title'>" ++ (name
    ++ (codes "</title><desc id='edf-desc'>" ++ (time ++ (codes ". " ++ (more
    ++ codes ".</desc>")))))))

-- that, and the texts that are drawn
abbrev pub head_of : ℕ → List ℕ → List ℕ → List ℕ → List ℕ → List ℕ
head_of height name more drawn time = (names_of height name time more ++ STYLE.now) ++ drawn

-- A text that begins as an SVG, has the title of this recording and the times of these runs, and
-- ends as an SVG. What its description says beside the times opens no tag.
pub record IsPicture (named : Named) (runs : List Extent) (picture : List ℕ) : Type 0 where
  pub height : ℕ
  pub time : List ℕ
  pub is_time : IsTimeLine runs time
  pub more : List ℕ
  pub drawn : List ℕ
  pub whole : picture ≡ head_of height (title_line 1000 named) (text_with 39 39 more)
      (drawn_texts named time) time ++ (drawn ++ codes "</svg>\n")
