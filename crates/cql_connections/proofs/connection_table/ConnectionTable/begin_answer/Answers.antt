use Rattle.cql_connections.proofs.connection_table.ConnectionTable.begin_answer.Goals as goal

pub owner-requires : goal.owner-requires
owner-requires g c = λ κs h. h
