-- What a view shows round a sample of its plane, and the sample that a unit's filter restores there.
use Rattle.std.specs.Prelude.{ℕ, ℤ}
use Rattle.standard.specs.declared.Kind.{Kind}
use Rattle.standard.specs.Wiener.{Grid}
use Rattle.rectangle.specs.declared.view.View.{View}
use Rattle.rectangle.specs.View.{view_at, shown_at}

abbrev pub seen : View → ℕ → ℕ → Grid
seen v = view_at v.inside.now v.beside.now v.w v.h v.source

abbrev pub shown : Kind → View → ℕ → ℕ → ℤ
shown kind v = shown_at v.depth kind v.inside.now v.beside.now v.w v.h v.source
