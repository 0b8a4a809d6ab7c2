-- What belongs to the depth.
use Rattle.std.specs.Prelude.{cond, ℕ, ◌+◌, ◌-◌, ◌^◌, eqb}
use Rattle.standard.specs.declared.Depth.{Depth}
use Rattle.standard.specs.declared.Depth.TheVariants.{Eight, Ten, Twelve}

-- BitDepth (§5.5.2)
abbrev pub bits : Depth → ℕ
bits Eight = 8
bits Ten = 10
bits Twelve = 12

-- InterRound0 and InterRound1 with isCompound 0 (§7.11.3.2)
abbrev pub r0 : Depth → ℕ
r0 Eight = 3
r0 Ten = 3
r0 Twelve = 5

abbrev pub r1 : Depth → ℕ
r1 Eight = 11
r1 Ten = 11
r1 Twelve = 9

-- the largest sample
abbrev pub largest : Depth → ℕ
largest d = 2 ^ bits d - 1

-- offset and limit of the Wiener filter's first pass (§7.17.4)
abbrev pub offset : Depth → ℕ
offset d = 2 ^ (bits d + 6 - r0 d)

abbrev pub limit : Depth → ℕ
limit d = 2 ^ (bits d + 8 - r0 d) - 1

-- the depth of a frame's number, where number 1 is not given
abbrev pub depth_of : ℕ → Depth
depth_of n = cond (eqb n 8) Eight (cond (eqb n 10) Ten Twelve)
