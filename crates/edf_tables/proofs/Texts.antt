-- What the texts mean.
use Rattle.std.proofs.Common.{◌≡◌, ℕ, List, [], ◌∷◌, codes, Ok, refl}
use Rattle.sqlite.specs.declared.types.Value.TheVariants.{Null}
use Rattle.sqlite.specs.Term.{Term, lit, col}
use Rattle.sqlite.specs.Source.TheVariants.{Values}
use Rattle.sqlite.specs.Command.TheVariants.{Insert, CreateTable, Nothing}
use Rattle.sqlite.specs.Compile.{table_defined_by}
use Rattle.sqlite_tied.specs.Compute.{everything}
use Rattle.sqlite.specs.Listing.{understood}
use Rattle.sqlite.specs.Change.{created}
use Rattle.sqlite.proofs.Callers.{IsPlain, command_of, statement_of}
use Rattle.edf_tables.specs.Schema.{recording, records, no_schema, one_schema, both_schema, Others}
use Rattle.edf_tables.specs.Schema.{schema_with}

abbrev pub create_recording_text : List ℕ
create_recording_text =
    codes "CREATE TABLE IF NOT EXISTS recording (id INTEGER PRIMARY KEY, identity BLOB NOT NULL UNIQUE) STRICT"

abbrev pub create_records_text : List ℕ
create_records_text =
    codes "CREATE TABLE IF NOT EXISTS record (recording INTEGER NOT NULL, start INTEGER NOT NULL, samples BLOB NOT NULL, block BLOB NOT NULL, PRIMARY KEY (recording, start)) STRICT"

abbrev pub insert_record_text : List ℕ
insert_record_text = codes "INSERT INTO record VALUES (?1, ?2, ?3, ?4)"

abbrev pub record_terms : List Term
record_terms = lit Null ∷ col 0 0 ∷ col 0 1 ∷ col 0 2 ∷ col 0 3 ∷ []

pub insert_record_is : (o : Others) →
    (command_of (understood (schema_with o) insert_record_text) ≡ Insert 1 (Values record_terms 5))
    × IsPlain (understood (schema_with o) insert_record_text)
unfolding understood everything
insert_record_is o = (refl, (refl, refl))

pub create_recording_is : (command_of (understood no_schema create_recording_text) ≡ CreateTable)
    × (statement_of create_recording_text
    (understood no_schema create_recording_text) ≡ create_recording_text)
    × (table_defined_by create_recording_text ≡ Ok recording)
    × IsPlain (understood no_schema create_recording_text)
unfolding understood everything
create_recording_is = (refl, refl, refl, (refl, refl))

pub recording_there : (command_of (understood one_schema create_recording_text) ≡ Nothing)
    × IsPlain (understood one_schema create_recording_text)
unfolding understood everything
recording_there = (refl, (refl, refl))

pub create_records_is : (command_of (understood one_schema create_records_text) ≡ CreateTable)
    × (statement_of create_records_text
    (understood one_schema create_records_text) ≡ create_records_text)
    × (table_defined_by create_records_text ≡ Ok (record records { tree = 0 }))
    × IsPlain (understood one_schema create_records_text)
unfolding understood everything
create_records_is = (refl, refl, refl, (refl, refl))

pub created_one : created no_schema recording ≡ one_schema
created_one = refl

pub created_both : created one_schema (record records { tree = 0 }) ≡ both_schema
created_both = refl

abbrev pub insert_recording_text : List ℕ
insert_recording_text = codes "INSERT INTO recording (identity) VALUES (?1)"

abbrev pub recording_terms : List Term
recording_terms = lit Null ∷ lit Null ∷ col 0 0 ∷ []

pub insert_recording_is : (o : Others) →
    (command_of (understood (schema_with o) insert_recording_text) ≡ Insert 0
    (Values recording_terms 3)) × IsPlain (understood (schema_with o) insert_recording_text)
unfolding understood everything
insert_recording_is o = (refl, (refl, refl))
