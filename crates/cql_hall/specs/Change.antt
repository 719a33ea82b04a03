-- Which steps a journal's file has a record of.
use Rattle.std.specs.Prelude.{Bool, true, false}
use Rattle.cql_core.specs.ReplyModel.{ReplyModel, Done, Based, Blocks, Listed, Refused}
use Rattle.cql_core.specs.Machine.{Stepped, Says, Pinned}

-- what is told so may have changed the core: that it is done, or a base
abbrev pub is_change_told : ReplyModel → Bool
is_change_told Done = true
is_change_told (Based base) = true
is_change_told (Blocks blocks next) = false
is_change_told (Listed listing) = false
is_change_told (Refused refusal) = false

-- the same of a step; what is pinned changes nothing
abbrev pub is_change : Stepped → Bool
is_change (Says told) = is_change_told told
is_change (Pinned p) = false
