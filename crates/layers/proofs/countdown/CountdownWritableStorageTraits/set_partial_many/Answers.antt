use Rattle.std.proofs.Common.{refl}
use Rattle.std.proofs.lemmas.Result.{err_from_is_err_and}
use Rattle.layers.specs.Counts.{lowered}
use Rattle.layers.proofs.OffsetWrites.{refused_first, cut_offset, through_offset}
use Rattle.layers.proofs.countdown.CountdownWritableStorageTraits.set_partial_many.Goals as goal

pub returns-in_err-begin_offset_write : goal.returns-in_err-begin_offset_write
returns-in_err-begin_offset_write g c =
    let p = err_from_is_err_and c.from_residual.result c.from_residual.ensures.1 in
    rw (p.1, p.2)
    (record {
      wrote = refused_first g.S.ReadableStorageTraits _ _ _ c.args.self.now.storage _ _ _ c.supports_set_partial-in_place.ensures _ _
          c.in_err-begin_offset_write.ensures.answer c.in_err-begin_offset_write.ensures.work;
      counts = (refl, refl);
    })

pub returns-in_err-has_power : goal.returns-in_err-has_power
returns-in_err-has_power g c =
    let p = err_from_is_err_and c.from_residual-in_err-has_power.result c.from_residual-in_err-has_power.ensures.1 in
    rw (p.1, p.2)
    (record {
      wrote = cut_offset g.S.ReadableStorageTraits _ _ _ c.args.self.now.storage _ _ _ c.supports_set_partial-in_place.ensures _
          c.in_ok-begin_offset_write.ensures.answer c.in_ok-begin_offset_write.ensures.work _ c.in_err-has_power.ensures;
      counts = (refl, refl);
    })

pub returns : goal.returns
returns g c =
    record {
      wrote = through_offset g.S.ReadableStorageTraits _ _ _ c.args.self.now.storage _ _ _ c.supports_set_partial-in_place.ensures _
          c.in_ok-begin_offset_write.ensures.answer c.in_ok-begin_offset_write.ensures.work _ c.set_partial_many-answer.new.self
          c.count.new.self.storage _ _ _ c.in_ok-has_power.ensures c.set_partial_many-answer.ensures c.count.ensures.below.0 c.count.ensures.counts;
      counts = (lowered _ _ _ _ c.count.ensures.counts, c.count.ensures.below.1);
    }
