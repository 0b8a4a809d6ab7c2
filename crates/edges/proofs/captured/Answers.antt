-- The extents are the plane's, so the captured rows are the slice of the definition.
use Prim.Native.Nat.{◌*◌, ◌-◌}
use mathlib.Core.Path.{sym, ◌∙◌}
use Rattle.laws.specs.Congruence.{ap2, ap3}
use Rattle.standard.specs.Stripes as defined
use Rattle.standard.specs.Planes.{captured_slice}
use Rattle.edges.proofs.Numbers.{passed, captured_done}
use Rattle.edges.proofs.captured.Goals as goal

pub capture_rows-requires-clause-deblocked_len : goal.capture_rows-requires-clause-deblocked_len
capture_rows-requires-clause-deblocked_len c =
    let p = passed _ _ _ c.requires in
    let own = sym c.sub_y.ensures.value in
    let high = sym c.height.ensures.value in
    let wide = sym c.width.ensures.value in
    (p.long ∙ ap2 ◌*◌ high wide, p.room ∙ ap3 (λ w o h. 4 * w * (defined.stripes o h - 1)) wide own high)

pub returns : goal.returns
returns c = c.capture_rows.ensures ∙ ap3 (λ o h w. captured_slice o h w c.args.deblocked.now) c.sub_y.ensures.value c.height.ensures.value c.width.ensures.value ∙ captured_done _ _ _ c.requires
