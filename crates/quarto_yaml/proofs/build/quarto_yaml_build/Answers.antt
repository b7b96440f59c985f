-- `quarto_yaml_build` is `build` in 32 bits: its counts and its place are bounded by the event bytes and by the pieces that are let in.
use Rattle.std.proofs.Common.{◌≡◌, ℕ, ◌<◌, List, Result, Ok, Err, arith, length, get_or}
use Rattle.event.specs.Read.{events_limit}
use Rattle.records.specs.Layout.{piece_limit}
use Rattle.parser.specs.Call.{returned, table_row, building}
use Rattle.parser.specs.declared.answer.Built.{Built}
use Rattle.parser.specs.declared.answer.Refused.{Refused}
use Rattle.parser.proofs.BoundLaws.{building_bounded}
use Rattle.quarto_yaml.proofs.Rows.{told_fits}
use Rattle.quarto_yaml.specs.Fit.{Fit}
use Rattle.quarto_yaml.proofs.build.quarto_yaml_build.Goals as goal

-- what was answered fits
fit : (text events : List ℕ) (size pieces_size : ℕ) (r : Result Built Refused) → ((k : ℕ) → get_or events k 0 < 256) → returned r ≡ table_row (building text events size pieces_size) → Fit (returned r)
fit text events size pieces_size r bytes e =
    told_fits events_limit piece_limit (building text events size pieces_size) _ (omega arith) (omega arith) (building_bounded text events size pieces_size bytes) e

pub overflow_cast-result : goal.overflow_cast-result
overflow_cast-result c =
    let a = c.args in
    let f = fit a.text.now a.events.now (length a.records.now) (length a.pieces.now) (Ok c.in-Ok.built) (λ k. (c.type_inv.events k).fits) c.in-Ok.ensures.answer in
    record { fits = omega arith }

pub overflow_cast-result-in-Ok : goal.overflow_cast-result-in-Ok
overflow_cast-result-in-Ok c =
    let a = c.args in
    let f = fit a.text.now a.events.now (length a.records.now) (length a.pieces.now) (Ok c.in-Ok.built) (λ k. (c.type_inv.events k).fits) c.in-Ok.ensures.answer in
    record { fits = omega arith }

pub overflow_cast-result-in-Err : goal.overflow_cast-result-in-Err
overflow_cast-result-in-Err c =
    let a = c.args in
    let f = fit a.text.now a.events.now (length a.records.now) (length a.pieces.now) (Err c.in-Err.refused) (λ k. (c.type_inv.events k).fits) c.in-Err.ensures.answer in
    record { fits = omega arith }
