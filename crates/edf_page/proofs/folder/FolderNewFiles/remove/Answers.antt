use Rattle.std.proofs.Common.{refl}
use Rattle.edf_page.proofs.There.{taken, untaken}
use Rattle.edf_page.proofs.folder.FolderNewFiles.remove.Goals as goal

pub returns-clause-there : goal.returns-clause-there
returns-clause-there c front later file now at =
    let old = c.args.self.now in
    taken old.given.name.now old.given.bytes.now old.given.name.now old.given.bytes.now
    old.names.all.items c.remove-2.new.self.all.items old.is_forgotten old.files c.remove-3.new.self
    refl refl front later file now (λ here. c.remove-3.ensures.files front later file here at)
    c.in-Some.name.now (λ here. c.in-Some.ensures front later file here at) c.remove-2.ensures

pub returns-in_default-clause-there : goal.returns-in_default-clause-there
returns-in_default-clause-there c front later file now at =
    let old = c.args.self.now in
    untaken old.given.name.now old.given.bytes.now old.given.name.now old.given.bytes.now
    old.names.all.items old.names.all.items old.is_forgotten old.files c.remove.new.self
    refl refl front later file now (λ here. c.remove.ensures.files front later file here at) refl
    (λ here. c.in_default.ensures front later file here at)
