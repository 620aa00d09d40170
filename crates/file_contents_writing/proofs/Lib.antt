pub mod SetsBytesWritten
pub mod StoresPlaces
pub mod ContentsJoined
