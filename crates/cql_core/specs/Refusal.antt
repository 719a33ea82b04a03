-- The numbers and names of the refusals.
use Rattle.std.specs.Prelude.{ℕ, List, codes}
use Rattle.cql_tenants.specs.declared.stream_refusal.StreamRefusal.{StreamRefusal}
use Rattle.cql_tenants.specs.declared.stream_refusal.StreamRefusal.TheVariants as refused
use Rattle.cql_core.specs.declared.refusal.Refusal.{Refusal}
use Rattle.cql_core.specs.declared.refusal.Refusal.TheVariants.{StreamExists, BadName, BadColumns, TooManyStreams, UnknownStream, UnknownTenant, AlreadyGranted, SelfGrant, BadGrantColumns, NotGranted}
use Rattle.cql_core.specs.declared.refusal.Refusal.TheVariants.{WrongRow, Late, AtTooLarge, BadQuery, UnknownColumn, AmbiguousColumn, TypeMismatch, TooManyQueries, QueryExists, UnknownQuery, Overrun}
use Rattle.cql_core.specs.declared.refusal.Refusal.TheVariants.{Ahead, Behind, Revoked, NoMemory}

abbrev pub number_of : Refusal → ℕ
number_of StreamExists = 20
number_of BadName = 21
number_of BadColumns = 22
number_of TooManyStreams = 23
number_of UnknownStream = 30
number_of UnknownTenant = 31
number_of AlreadyGranted = 32
number_of SelfGrant = 33
number_of BadGrantColumns = 34
number_of NotGranted = 35
number_of WrongRow = 40
number_of Late = 41
number_of AtTooLarge = 42
number_of (BadQuery at) = 50
number_of UnknownColumn = 52
number_of AmbiguousColumn = 53
number_of TypeMismatch = 54
number_of TooManyQueries = 55
number_of QueryExists = 56
number_of UnknownQuery = 57
number_of Overrun = 60
number_of Ahead = 61
number_of Behind = 62
number_of Revoked = 63
number_of NoMemory = 70

abbrev pub name_of : Refusal → List ℕ
name_of StreamExists = codes "StreamExists"
name_of BadName = codes "BadName"
name_of BadColumns = codes "BadColumns"
name_of TooManyStreams = codes "TooManyStreams"
name_of UnknownStream = codes "UnknownStream"
name_of UnknownTenant = codes "UnknownTenant"
name_of AlreadyGranted = codes "AlreadyGranted"
name_of SelfGrant = codes "SelfGrant"
name_of BadGrantColumns = codes "BadGrantColumns"
name_of NotGranted = codes "NotGranted"
name_of WrongRow = codes "WrongRow"
name_of Late = codes "Late"
name_of AtTooLarge = codes "AtTooLarge"
name_of (BadQuery at) = codes "BadQuery"
name_of UnknownColumn = codes "UnknownColumn"
name_of AmbiguousColumn = codes "AmbiguousColumn"
name_of TypeMismatch = codes "TypeMismatch"
name_of TooManyQueries = codes "TooManyQueries"
name_of QueryExists = codes "QueryExists"
name_of UnknownQuery = codes "UnknownQuery"
name_of Overrun = codes "Overrun"
name_of Ahead = codes "Ahead"
name_of Behind = codes "Behind"
name_of Revoked = codes "Revoked"
name_of NoMemory = codes "NoMemory"

-- the refusal that the directory gives
abbrev pub refusal_of : StreamRefusal → Refusal
refusal_of refused.StreamExists = StreamExists
refusal_of refused.BadName = BadName
refusal_of refused.BadColumns = BadColumns
refusal_of refused.TooManyStreams = TooManyStreams
refusal_of refused.UnknownStream = UnknownStream
refusal_of refused.UnknownTenant = UnknownTenant
refusal_of refused.AlreadyGranted = AlreadyGranted
refusal_of refused.SelfGrant = SelfGrant
refusal_of refused.BadGrantColumns = BadGrantColumns
refusal_of refused.NotGranted = NotGranted
refusal_of refused.WrongRow = WrongRow
refusal_of refused.Late = Late
refusal_of refused.AtTooLarge = AtTooLarge
