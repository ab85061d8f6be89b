use Rattle.std.proofs.Common.{◌≡◌, ◌<◌, length, slice_index_or, rules, sym, subst, ◌∙◌}
use Rattle.std.proofs.lemmas.Result.{err_from_is_err_and}
use Rattle.edf_header.specs.Key.{key_bytes}
use Rattle.sqlite.specs.declared.error.Error.TheVariants.{SqliteFailure}
use Rattle.sqlite.specs.declared.error.ErrorCode.TheVariants.{OutOfMemory}
use Rattle.edf_store.specs.declared.fault.RowFault.{RowFault}
use Rattle.edf_store.specs.declared.fault.RowFault.TheVariants as row
use Rattle.edf_store.proofs.KeysRead.{IsOfKey, all_index, refused_for_memory}
use Rattle.edf_store.proofs.summaries.identities_in.Goals as goal

pub returns-in_err-identity : goal.returns-in_err-identity
returns-in_err-identity c =
    let told = err_from_is_err_and c.from_residual.result c.from_residual.ensures.1 in
    rw told.1 (record {
      read = tt;
      keys = tt;
      ours = λ all is.
          let item = c.bytes-item.is in
          let value = c.deref-bytes-items.ensures.value in
          let same : c.bytes-item.result ≡ slice_index_or c.args.all.items c.loop-bytes.bytes-index
          c.bytes-item.result = cc in
          let within : c.loop-bytes.bytes-index < length c.args.all.items = search rules in
          let of = subst IsOfKey (sym same) (all_index IsOfKey c.args.all.items all
          c.loop-bytes.bytes-index c.bytes-item.result within) in
          let bytes : c.as_slice.result.now ≡ c.bytes-item.result.items = search rules in
          let spelled : c.as_slice.result.now ≡ key_bytes of.0 = bytes ∙ of.2 in
          let memory = refused_for_memory c.as_slice.result.now c.in_err-identity.field-0.0
          c.in_err-identity.ensures (of.0, of.1, spelled) in
          let clash : ◌≡◌ {A = RowFault} (row.Sqlite (SqliteFailure OutOfMemory)) row.Foreign =
          sym (told.2.memory memory) ∙ is in
          absurd (cc);
    })
