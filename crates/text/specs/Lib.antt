-- What the contracts of `text` cite: hexadecimal, decimal, the words of the command line, and UTF-8.
pub mod Hex
pub mod Decimal
pub mod Words
pub mod Utf8
