use Rattle.std.proofs.Common.{rules}
use Rattle.cql_wire.proofs.request.call_of.Goals as goal

pub returns-in_default : goal.returns-in_default
returns-in_default c = search rules

pub returns-in-Err : goal.returns-in-Err
returns-in-Err c = search rules

pub returns-in-None : goal.returns-in-None
returns-in-None c = search rules

pub returns-in-None-tenant_of : goal.returns-in-None-tenant_of
returns-in-None-tenant_of c = search rules

pub returns-in-Some-tenant_of : goal.returns-in-Some-tenant_of
returns-in-Some-tenant_of c = search rules
