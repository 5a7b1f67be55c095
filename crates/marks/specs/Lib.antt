-- Maps of D words: what is marked, and what marking leaves.
pub mod Marked
