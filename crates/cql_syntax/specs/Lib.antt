pub mod Tokens
pub mod Operators
pub mod Cursor
pub mod Lex
pub mod Spelling
