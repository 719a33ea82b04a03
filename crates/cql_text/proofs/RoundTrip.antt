-- A canonical spelling is read as what it spells.
use Rattle.std.proofs.Common.{◌≡◌, ◌≤◌, [], length, sym, ap, ◌∙◌, subst, append-nil}
use Rattle.cql_syntax.specs.declared.syntax.Query.{Query}
use Rattle.cql_syntax.specs.Tokens.{Tokens, tokens_of}
use Rattle.cql_syntax.specs.Lex.{Bytes, lexed}
use Rattle.cql_text.specs.Grammar.{Spells}
use Rattle.cql_syntax.specs.Spelling.{pieces_tokens, spell_query, canonical}
use Rattle.cql_text.specs.Read.{most_bytes, Is, IsSyntax}
use Rattle.cql_text.proofs.Laws.{ArePlain}
use Rattle.cql_text.proofs.BlockLaws.{query_reader}
use Rattle.cql_text.proofs.AgainQuery.{query_again}
use Rattle.cql_text.proofs.Cuts.{spelled_lexed}

-- a query is of tokens that a text has
query_plain : (ts : Tokens) (q : Query) → Spells ts q → ArePlain ts
query_plain ts q h = let a = query_reader.free ts [] q h in subst ArePlain (sym (a.1 ∙ append-nil a.0)) a.3

pub canonical_is : (text : Bytes) (q : Query) → IsSyntax q → text ≡ canonical q → length text ≤ most_bytes → Is text q
unfolding canonical
canonical_is text q h e small =
    let s = query_again h.0 q h.1 in
    let c = spelled_lexed (spell_query q) (query_plain (pieces_tokens (spell_query q)) q s) in
    (small, ap (λ z. (lexed z).fault) e ∙ c.1, subst (λ us. Spells us q) (sym (ap (λ z. tokens_of (lexed z).lexemes) e ∙ c.0)) s)
