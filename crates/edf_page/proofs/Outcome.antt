-- What a program wrote and made in memory, where nothing had been written or made.
use Rattle.std.proofs.Common.{◌≡◌, ℕ, List, [], Some, true, All, ap, refl}
use Rattle.std.specs.Prelude.{bytes_eq}
use Rattle.std.specs.List.{AllZip}
use Rattle.edf_cli.specs.Making.{Making}
use Rattle.edf_cli.specs.Output.{OutputChange}
use Rattle.edf_page.specs.InsideFolder.{is_among, there_in, unforgotten}
use Rattle.edf_page.specs.Programs.{IsGivenBack, IsText, IsWholeOrGone, MakesInMemory, finished_of}
use Rattle.edf_page.specs.declared.begun.NamedFile.{NamedFile}
use Rattle.edf_page.specs.declared.folder.Folder.{Folder}
use Rattle.edf_page.specs.declared.given.GivenFile.{GivenFile}
use Rattle.edf_page.specs.declared.text.Text.{Text}
use Rattle.edf_page.proofs.There.{fresh-there, unforgotten-none}

abbrev pub text_change : Text → Text → OutputChange
text_change old new = record {
  before = Some old.bytes.items;
  failed_before = old.failures;
  after = Some new.bytes.items;
  failed_after = new.failures;
}

pub from-empty : (old new : Text) → old.bytes.items ≡ [] → old.failures ≡ 0 →
    IsText (text_change old new) new.bytes.items
from-empty old new empty none = record { empty = ap Some empty; unfailed = none; is = refl }

abbrev pub folder_change : Folder → Folder → Making
folder_change old new = record {
  known = true;
  there = there_in old.given.name.now old.given.bytes.now old.names.all.items old.files;
  before = unforgotten old.is_forgotten old.files;
  failed_before = old.failed;
  after = unforgotten new.is_forgotten new.files;
  failed_after = new.failed;
}

pub made-in-memory : (file : GivenFile) (old new : Folder) (files : List NamedFile) →
    old.given ≡ file →
    ((other : List ℕ) → is_among old.names.all.items other ≡ bytes_eq file.name.now other) →
    old.files ≡ [] → old.failed ≡ 0 →
    AllZip IsGivenBack (finished_of (unforgotten new.is_forgotten new.files)) files →
    All IsWholeOrGone (unforgotten new.is_forgotten new.files) →
    MakesInMemory file.name.now file.bytes.now (folder_change old new) files
made-in-memory file old new files given named none unfailed back gone = record {
  known = refl;
  there = fresh-there file.name.now file.bytes.now old.given.name.now old.given.bytes.now
      old.names.all.items old.files (ap (λ (g : GivenFile). g.name.now) given)
      (ap (λ (g : GivenFile). g.bytes.now) given) none named;
  none = unforgotten-none old.is_forgotten old.files none;
  unfailed = unfailed;
  given_back = back;
  gone = gone;
}
