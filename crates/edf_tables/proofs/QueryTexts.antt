-- What the texts of the queries mean.
use Rattle.std.proofs.Common.{◌≡◌, ℕ, pos, List, [], ◌∷◌, codes, false, refl}
use Rattle.sqlite.specs.declared.types.Value.TheVariants.{Int}
use Rattle.sqlite.specs.Term.{lit, col}
use Rattle.sqlite.specs.Query.{Query}
use Rattle.sqlite.specs.Command.TheVariants.{Select}
use Rattle.sqlite_tied.specs.Compute.{everything}
use Rattle.sqlite.specs.Listing.{understood, reads_listing}
use Rattle.sqlite.proofs.Callers.{IsPlain, command_of}
use Rattle.edf_tables.proofs.Queries.{plain_query, ordered_query, paged_query, last_query}
use Rattle.edf_tables.proofs.Queries.{of_recording, start_samples_block, near_terms, after_terms}
use Rattle.edf_tables.proofs.Queries.{from_terms, count_query, identity_terms}
use Rattle.edf_tables.specs.Schema.{Others, schema_with}

-- the text is this query, which reads our rows and nothing else
pub record Means (sql : List ℕ) (query : Query) (names : List (List ℕ)) : Type 0 where
  pub command : (o : Others) → command_of (understood (schema_with o) sql) ≡ Select
      (record { lets = []; body = query }) names
  pub unlisted : (o : Others) → reads_listing (schema_with o) sql ≡ false
  pub plain : (o : Others) → IsPlain (understood (schema_with o) sql)

abbrev pub near_text : List ℕ
near_text = codes
    "SELECT start, samples, block FROM record WHERE recording = ?1 AND start > ?2 AND start < ?3 ORDER BY start"

abbrev pub page_text : List ℕ
page_text = codes
    "SELECT start, samples, block FROM record WHERE recording = ?1 AND start > ?2 ORDER BY start LIMIT ?3"

abbrev pub rows_text : List ℕ
rows_text = codes "SELECT start, samples, block FROM record WHERE recording = ?1 ORDER BY start"

abbrev pub count_text : List ℕ
count_text = codes "SELECT count(*) FROM record WHERE recording = ?1"

abbrev pub first_text : List ℕ
first_text = codes "SELECT start FROM record WHERE recording = ?1 ORDER BY start LIMIT 1"

abbrev pub next_text : List ℕ
next_text = codes
    "SELECT start FROM record WHERE recording = ?1 AND start >= ?2 ORDER BY start LIMIT 1"

abbrev pub last_text : List ℕ
last_text = codes "SELECT start FROM record WHERE recording = ?1 ORDER BY start DESC LIMIT 1"

abbrev pub id_text : List ℕ
id_text = codes "SELECT id FROM recording WHERE identity = ?1"

abbrev pub identities_text : List ℕ
identities_text = codes "SELECT identity FROM recording ORDER BY identity"

abbrev pub recordings_text : List ℕ
recordings_text = codes "SELECT id, identity FROM recording ORDER BY id"

abbrev pub count_all_text : List ℕ
count_all_text = codes "SELECT count(*) FROM record"

abbrev pub start_samples_block_names : List (List ℕ)
start_samples_block_names = codes "start" ∷ codes "samples" ∷ codes "block" ∷ []

pub near_is : Means near_text (ordered_query 2 near_terms start_samples_block 2)
    start_samples_block_names
unfolding understood everything
near_is = record { command = λ o. refl; unlisted = λ o. refl; plain = λ o. (refl, refl) }

pub page_is : Means page_text (paged_query 2 after_terms start_samples_block 2 (col 0 2))
    start_samples_block_names
unfolding understood everything
page_is = record { command = λ o. refl; unlisted = λ o. refl; plain = λ o. (refl, refl) }

pub rows_is : Means rows_text (ordered_query 2 (of_recording ∷ []) start_samples_block 2)
    start_samples_block_names
unfolding understood everything
rows_is = record { command = λ o. refl; unlisted = λ o. refl; plain = λ o. (refl, refl) }

pub count_is : Means count_text (count_query (of_recording ∷ [])) (codes "count(*)" ∷ [])
unfolding understood everything
count_is = record { command = λ o. refl; unlisted = λ o. refl; plain = λ o. (refl, refl) }

pub first_is : Means first_text (paged_query 2 (of_recording ∷ []) (col 1 2 ∷ []) 2
    (lit (Int (pos 1)))) (codes "start" ∷ [])
unfolding understood everything
first_is = record { command = λ o. refl; unlisted = λ o. refl; plain = λ o. (refl, refl) }

pub next_is : Means next_text (paged_query 2 from_terms (col 1 2 ∷ []) 2 (lit (Int (pos 1))))
    (codes "start" ∷ [])
unfolding understood everything
next_is = record { command = λ o. refl; unlisted = λ o. refl; plain = λ o. (refl, refl) }

pub last_is : Means last_text (last_query 2 (of_recording ∷ []) (col 1 2 ∷ []) 2)
    (codes "start" ∷ [])
unfolding understood everything
last_is = record { command = λ o. refl; unlisted = λ o. refl; plain = λ o. (refl, refl) }

pub id_is : Means id_text (plain_query 0 identity_terms (col 1 0 ∷ [])) (codes "id" ∷ [])
unfolding understood everything
id_is = record { command = λ o. refl; unlisted = λ o. refl; plain = λ o. (refl, refl) }

pub identities_is : Means identities_text (ordered_query 0 [] (col 1 2 ∷ []) 2)
    (codes "identity" ∷ [])
unfolding understood everything
identities_is = record { command = λ o. refl; unlisted = λ o. refl; plain = λ o. (refl, refl) }

pub recordings_is : Means recordings_text (ordered_query 0 [] (col 1 0 ∷ col 1 2 ∷ []) 0)
    (codes "id" ∷ codes "identity" ∷ [])
unfolding understood everything
recordings_is = record { command = λ o. refl; unlisted = λ o. refl; plain = λ o. (refl, refl) }

pub count_all_is : Means count_all_text (count_query []) (codes "count(*)" ∷ [])
unfolding understood everything
count_all_is = record { command = λ o. refl; unlisted = λ o. refl; plain = λ o. (refl, refl) }
