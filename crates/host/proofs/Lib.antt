-- What a host is told, and the tables that it gets back.
pub mod SevenLaws
pub mod ToldLaws
