use Rattle.std.proofs.Common.{◌≡◌, ◌++◌, ◌∷◌, [], rules}
use Rattle.edf_cli.specs.Made.{begun}
use Rattle.edf_page.proofs.LastHeld.{held-begun}
use Rattle.edf_page.proofs.There.{same-there}
use Rattle.edf_page.proofs.folder.FolderNewFiles.create.Goals as goal

pub returns-clause-there : goal.returns-clause-there
returns-clause-there c =
    let folder = c.args.self.now in
    let grown : c.push.new.self ≡ folder.files ++ (begun c.args.name.now ∷ []) = search rules in
    same-there folder.given.name.now folder.given.bytes.now folder.names.all.items folder.files
    c.push.new.self (held-begun folder.files c.push.new.self c.args.name.now grown)
