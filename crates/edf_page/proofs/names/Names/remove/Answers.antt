use Rattle.std.proofs.Common.{◌∙◌, ap, rules, List, ℕ, string_bytes}
use Rattle.std.specs.Prelude.{String, bytes_eq, not}
use Rattle.std.specs.Global.{Global}
use borrow.Author.Tests.{tests}
use Rattle.std.proofs.lemmas.Fn.{filter_same}
use Rattle.std.proofs.lemmas.Map.Views.{any-filter_same}
use Rattle.std.proofs.lemmas.Slice.Eq.{bytes_eq-Decides}
use Rattle.edf_page.specs.InsideFolder.{is_among}
use Rattle.edf_page.proofs.names.Names.remove.Goals as goal

pub returns : goal.returns
returns c other =
    let name = c.args.name.now in
    let keeps = λ (s : String Global). not (bytes_eq (string_bytes s) name) in
    let kept = filter_same _ keeps _ (λ x b f' k. search (rules, tests)) c.args.self.now.all.items
    c.retain.new.self.items c.retain.ensures.filtered in
    ap (λ (names : List (String Global)). is_among names other) kept
    ∙ any-filter_same (λ (s : String Global). bytes_eq (string_bytes s) other) keeps
    (not (bytes_eq other name)) (λ s is. ap (λ (t : List ℕ). not (bytes_eq t name))
    ((bytes_eq-Decides (string_bytes s) other).0 is)) c.args.self.now.all.items
