-- The first of the files that were opened.
use Rattle.std.proofs.Common.{◌≡◌, ◌++◌, ◌∙◌, ℕ, List, take, drop, map, sym, ap, take-append-drop}
use Rattle.std.proofs.lemmas.List.{map-append}
use Rattle.std.specs.Global.{Global}
use Rattle.std.specs.Prelude.{String, string_bytes}
use Rattle.edf_command.specs.Taking.{OpensPrefix}

pub opens-front : (before after : List (List ℕ)) (files : List (String Global)) (i : ℕ)
    → after ≡ before ++ map (λ (file : String Global). string_bytes file) (take i files)
    → OpensPrefix before after (map (λ (file : String Global). string_bytes file) files)
opens-front before after files i e =
    let text : String Global → List ℕ = λ file. string_bytes file in
    record {
      prefix = map text (take i files);
      remaining = map text (drop i files);
      parts = ap (map text) (sym (take-append-drop i files))
          ∙ map-append text (take i files) (drop i files);
      opened = e;
    }
