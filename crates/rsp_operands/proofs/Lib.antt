pub mod JoinedTexts
pub mod SameTerms
pub mod TermOrder
pub mod TwoTerms
pub mod NumberTruth
