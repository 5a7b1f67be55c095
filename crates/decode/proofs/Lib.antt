-- Numbers that loops and jumps see
pub mod ByNumber
