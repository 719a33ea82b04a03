-- The instant that is asked for of an element.
use Rattle.std.specs.Prelude.{ℕ}
use Rattle.cql_value.specs.Element.{Element}
use Rattle.cql_window.specs.Changes.{came, gone}
use Rattle.cql_window.specs.declared.instants.Moment.{Moment}
use Rattle.cql_window.specs.declared.instants.Moment.TheVariants.{Time, Coming, Leaving}

abbrev pub instant_of : Moment → Element → ℕ
instant_of Time x = x.at
instant_of (Coming slide) x = came slide x
instant_of (Leaving len slide) x = gone len slide x
