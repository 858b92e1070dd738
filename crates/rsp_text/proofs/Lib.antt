pub mod DigitLaws
pub mod InstantLaws
pub mod TextRows
pub mod SpanLaws
