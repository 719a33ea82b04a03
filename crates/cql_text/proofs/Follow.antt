-- The tests of tokens that go on with what was read.
use Rattle.std.proofs.Common.{Bool, ◌||◌}
use Rattle.cql_syntax.specs.declared.token.Fixed.TheVariants as k
use Rattle.cql_syntax.specs.declared.token.Token.{Token}
use Rattle.cql_syntax.specs.Tokens.{is, knows, sign}
use Rattle.cql_syntax.specs.Operators.{sum_sign, product_sign, set_operator_of}
use Rattle.cql_text.specs.Meaning.{starts_alias, unit_of}

abbrev pub Test : Type 0
Test = Token → Bool

abbrev pub after_name : Test
after_name = is k.Dot

abbrev pub after_term : Test
after_term x = knows product_sign x || after_name x

abbrev pub after_sum : Test
after_sum x = knows sum_sign x || after_term x

abbrev pub after_item : Test
after_item x = is k.As x || after_sum x

abbrev pub after_items : Test
after_items x = is k.Comma x || after_item x

abbrev pub after_both : Test
after_both x = knows (sign k.And) x || after_name x

abbrev pub after_condition : Test
after_condition x = knows (sign k.Or) x || after_both x

abbrev pub after_length : Test
after_length = knows unit_of

abbrev pub after_window : Test
after_window x = is k.Slide x || after_length x

abbrev pub after_stream : Test
after_stream x = is k.OpenSquare x || after_name x

abbrev pub after_input : Test
after_input x = starts_alias x || after_stream x

abbrev pub after_inputs : Test
after_inputs x = is k.Comma x || after_input x

abbrev pub after_where : Test
after_where x = is k.Where x || (after_condition x || after_inputs x)

abbrev pub after_columns : Test
after_columns x = is k.Comma x || after_name x

abbrev pub after_block : Test
after_block x = is k.Group x || (after_columns x || after_where x)

abbrev pub after_whole : Test
after_whole x = knows set_operator_of x || after_block x

abbrev pub after_query : Test
after_query x = is k.Semicolon x || after_whole x
