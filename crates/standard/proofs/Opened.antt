-- To compute: `unfolding opened` opens every definition that a sample, a plane or a call's number is computed by.
use Prim.Native.Nat.{ℕ}
use Rattle.laws.specs.Lists.{listing, plane, all, all_below}
use Rattle.standard.specs.Arithmetic.{round2, round_ℕ, clip3, clip_to, wrap, sum, sum_ℤ}
use Rattle.standard.specs.Wiener.{clip_mid, across, wiener}
use Rattle.standard.specs.SelfGuided.{sgr_params, sgr, box_sum, spread, a2_of, a2_at, b2_at, weight, shift, weighted, filtered, pass_of, project, self_guided}
use Rattle.standard.specs.Fetch.{restored, fetch, window, unit_at, restored_at, changed}
use Rattle.standard.specs.Stripes.{units, stripe_start, stripe_stop, stripe_of, stripes, unit_row_of, unit_col_of}
use Rattle.standard.specs.Planes.{grid, tabled, restored_slice, edge_row, captured_slice, edges, above, below, source, source_window, stripe_slice}
use Rattle.standard.specs.UpscaleFilter.{upscale_filter, up_tap}
use Rattle.standard.specs.Superres.{step, err, start, position, whole, phase, last_col, column, upscaled}
use Rattle.standard.specs.Units.{field, legal_taps, legal_weights, is_type, legal_wiener, legal_guided, legal_entry, kind_of}
use Rattle.standard.specs.Refusals.{first, no1, no2, no3, no4, no5, no9, no10, no11, no12, no15, scratch_need, copy_need, stripe_tests}
use Rattle.standard.specs.Calls.{own_rows, stripe_call_number, stripe_done, after_stripe, run}

unfoldable pub opened : ℕ
unfolding listing plane all all_below round2 round_ℕ clip3 clip_to wrap sum sum_ℤ clip_mid across wiener sgr_params sgr box_sum spread a2_of a2_at b2_at weight shift weighted filtered pass_of project self_guided restored units stripe_start stripe_stop stripe_of stripes unit_row_of unit_col_of fetch window unit_at restored_at changed grid tabled restored_slice edge_row captured_slice edges above below source source_window stripe_slice upscale_filter up_tap step err start position whole phase last_col column upscaled field legal_taps legal_weights is_type legal_wiener legal_guided legal_entry kind_of first no1 no2 no3 no4 no5 no9 no10 no11 no12 no15 scratch_need copy_need stripe_tests own_rows stripe_call_number stripe_done after_stripe run
opened = 0
