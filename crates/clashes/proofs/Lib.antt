pub mod RowLaws
pub mod PairLaws
pub mod Telling
pub mod Names
pub mod Reports
