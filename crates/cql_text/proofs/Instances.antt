-- The law of reading at a text that is a query: a premise of it is what the law itself says of the reader.
use Rattle.std.proofs.Common.{◌≡◌, Ok}
use Rattle.cql_syntax.specs.declared.syntax.Query.{Query}
use Rattle.cql_syntax.specs.Lex.{Bytes}
use Rattle.cql_text.specs.Read.{Is, read_of, ReadLaw}

is_query : ReadLaw → (text : Bytes) (q : Query) → read_of text ≡ Ok q → Is text q
is_query law text = (law text).0

read_law_at : ReadLaw → (text : Bytes) (q : Query) → read_of text ≡ Ok q → read_of text ≡ Ok q
read_law_at law text q is = (law text).1 q (is_query law text q is)
