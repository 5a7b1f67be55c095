-- What an exchange and a Modbus request make of a memory file.
pub mod Images
pub mod Tables
