-- The laws of traces as bytes: what they say; then of traces recorded, and read back.
pub mod Bytes
pub mod Padding
pub mod Inside
pub mod HeaderTests
pub mod Parts
pub mod Tested
pub mod Checking
pub mod Raised
pub mod Encoding
pub mod Decoding
pub mod RecordingTests
pub mod Growing
pub mod RoundTrip
pub mod Extending
