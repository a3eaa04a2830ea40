-- What a reader must believe: Standard MIDI Files 1.0 and document 01 as definitions over lists of bytes.
pub mod Answer
pub mod Width
pub mod Running
pub mod Number
pub mod Payload
pub mod Place
pub mod Write
pub mod Signed
pub mod Smpte
pub mod Header
pub mod Seconds
pub mod Bend
pub mod Wire
pub mod Kind
pub mod Event
pub mod MetaAt
pub mod Lists
