pub mod KindLaws
mod GapForms
pub mod GapLaws
pub mod TokenLaws
pub mod ReachLaws
pub mod EnoughLaws
pub mod FormLaws
mod PatternLaws
mod Automata
mod NameForms
mod NumberForms
mod QuotedForms
mod SymbolForms
