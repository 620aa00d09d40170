pub mod BytesJoined
pub mod ContentsWords
pub mod LastByte
pub mod StoresRead
