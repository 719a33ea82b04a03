-- The laws that what is kept of groups rests on.
use Rattle.cql_bag.specs.Law.{IsSameCountsLaw, IsPutAllLaw, IsTakeLaw, IsEntriesLaw}
use Rattle.cql_algebra.specs.Groups.{IsKeyLaw, IsGroupLaw, IsGroupedColumnLaw}
use Rattle.cql_algebra.specs.GroupChanges.{IsKeyChangeLaw, IsKeyCountLaw, IsOneGroupLaw, IsOfGroupsLaw, IsMoreLaw, IsFewerLaw, AreEndsLaw}
use Rattle.cql_algebra.specs.PlanLaws.{IsGroupTypesLaw, IsChangeTypesLaw}
use Rattle.cql_algebra.specs.ShapeLaws.{IsMinLaw, IsMaxLaw}

pub record Laws : Type 0 where
  pub same : IsSameCountsLaw
  pub puts : IsPutAllLaw
  pub takes : IsTakeLaw
  pub entries : IsEntriesLaw
  pub keys : IsKeyLaw
  pub group : IsGroupLaw
  pub column : IsGroupedColumnLaw
  pub key_change : IsKeyChangeLaw
  pub key_count : IsKeyCountLaw
  pub more : IsMoreLaw
  pub fewer : IsFewerLaw
  pub ends : AreEndsLaw
  pub least : IsMinLaw
  pub greatest : IsMaxLaw
  pub one_group : IsOneGroupLaw
  pub of_groups : IsOfGroupsLaw
  pub typing : IsGroupTypesLaw
  pub changes : IsChangeTypesLaw
