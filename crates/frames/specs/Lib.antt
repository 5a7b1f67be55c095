pub mod Exception
