-- What the contracts of `primitives` cite: the digests, HMAC and RC4 as their documents define them, and the limits.
pub mod Limits
pub mod Octets
pub mod Word
pub mod Md4
pub mod Md5
pub mod Hash
pub mod Hmac
pub mod Rc4
pub mod Whole
