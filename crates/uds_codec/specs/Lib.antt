pub mod Answer
pub mod Awaited
pub mod Decoding
pub mod Form
pub mod Grammar
pub mod Key
pub mod Laws
pub mod Request
