use Rattle.std.proofs.Common.{◌∙◌, ap}
use Rattle.edf_page.specs.declared.given.GivenFile.{GivenFile}
use Rattle.edf_page.proofs.There.{ended}
use Rattle.edf_page.proofs.folder.FolderNewFiles.finish.Goals as goal

pub returns-clause-there : goal.returns-clause-there
returns-clause-there c front name now =
    let old = c.args.self.now in
    let new = c.take_name.new.self in
    let same = c.in_default.ensures in
    ended old.given.name.now old.given.bytes.now new.given.name.now new.given.bytes.now
    old.names.all.items new.names.all.items old.is_forgotten old.files c.give_back-2.new.self
    (ap (λ (g : GivenFile). g.name.now) same.given) (ap (λ (g : GivenFile). g.bytes.now) same.given)
    front name c.args.writer.bytes.items c.len-count.result now
    (λ here. c.give_back-2.ensures.files front name (same.files ∙ here))
    (λ here. same.names front name here)
