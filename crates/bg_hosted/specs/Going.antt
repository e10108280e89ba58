-- What happens to a match between the actions of its players.
use Rattle.std.specs.Prelude.{List}
use Rattle.std.specs.List.{AllByRecursion}
use Rattle.bg_protocol.specs.Worlds.Views.{WorldView}
use Rattle.bg_protocol.specs.Worlds.WorldRuns.{CallsAll}
use Rattle.bg_protocol.specs.declared.events.Event.{Event}
use Rattle.bg_protocol.specs.declared.events.Event.TheVariants as events
use Rattle.bg_protocol.specs.declared.events.Outcome.{Outcome}

-- by the event no player acts
abbrev pub IsNoChoice : Event → Type 0
IsNoChoice (events.Choose seat action) = ⊥
IsNoChoice _ = Unit {0}

-- events happened one after the other, over an honest link and over keepers that may be honest; by
-- none a player acts
pub record GoesOn (keepers_honest : Type 0) (old new : WorldView) : Type 0 where
  pub events : List Event
  pub outcomes : List Outcome
  pub none_chosen : AllByRecursion IsNoChoice events
  pub calls : CallsAll (Unit {0}) keepers_honest old events outcomes new
